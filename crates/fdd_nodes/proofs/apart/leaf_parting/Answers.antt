use Rattle.std.proofs.Common.{◌≡◌, refl, sym, ◌∙◌, subst, List}
use Rattle.std.proofs.lemmas.Bool.{false≢true}
use Rattle.nk_values.specs.declared.packet.Packet.{Packet}
use Rattle.nk_values.specs.declared.lit.Lit.{Lit}
use Rattle.fdd_nodes.specs.Trees.{Tree, leaf_at, outcomes, SameAnswers}
use Rattle.fdd_nodes.specs.Trees.{tree}
use Rattle.fdd_nodes.proofs.CellLaws.{leaf_alike, leaf_parts}
use Rattle.fdd_nodes.proofs.apart.leaf_parting.Goals as goal

-- sameness of leaves by other names
named : (x x' y y' : List (List Lit)) (p p' : Packet) → x ≡ x' → y ≡ y' → p ≡ p' → SameAnswers (outcomes x p) (outcomes y p) → SameAnswers (outcomes x' p') (outcomes y' p')
named x x' y y' p p' e f g h =
    subst (λ (q : Packet). SameAnswers (outcomes x' q) (outcomes y' q)) g
    (subst (λ (z : List (List Lit)). SameAnswers (outcomes z p) (outcomes y' p)) e (subst (λ (z : List (List Lit)). SameAnswers (outcomes x p) (outcomes z p)) f h))

abbrev same_at : Packet → Tree → Tree → Type 0
same_at p a b = SameAnswers (outcomes (leaf_at a p) p) (outcomes (leaf_at b p) p)

at_cell : (a b : Tree) (p p' : Packet) → p ≡ p' → same_at p a b → same_at p' a b
at_cell a b p p' e h = subst (λ (q : Packet). same_at q a b) e h

pub returns-then-makes_same : goal.returns-then-makes_same
returns-then-makes_same c =
    leaf_alike _ _ _ c.requires.leaf_a c.requires.leaf_b
    (at_cell (tree c.args.a.now) (tree c.args.b.now) _ _ c.generic-packet.ensures (named _ _ _ _ _ _ c.leaf_of.ensures c.leaf_of-2.ensures refl (c.makes_same.ensures.0 c.if-makes_same.true)))

pub returns-else-makes_same : goal.returns-else-makes_same
returns-else-makes_same c =
    leaf_parts _ _ _ c.requires.leaf_a c.requires.leaf_b
    (λ h. false≢true (sym c.if-makes_same.false ∙ c.makes_same.ensures.1 (named _ _ _ _ _ _ (sym c.leaf_of.ensures) (sym c.leaf_of-2.ensures) refl (at_cell (tree c.args.a.now) (tree c.args.b.now) _ _ (sym c.generic-packet.ensures) h))))
