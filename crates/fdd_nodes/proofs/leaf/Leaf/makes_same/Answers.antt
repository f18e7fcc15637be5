use Rattle.std.proofs.Common.{◌≡◌, refl, sym, ◌∙◌, subst, List}
use Rattle.std.proofs.lemmas.Bool.{false≢true}
use Rattle.nk_values.specs.declared.packet.Packet.{Packet}
use Rattle.nk_values.specs.declared.lit.Lit.{Lit}
use Rattle.fdd_nodes.specs.Makes.{MakesAll}
use Rattle.fdd_nodes.proofs.OrderLaws.{one_leaf_same}
use Rattle.fdd_nodes.proofs.MakesLaws.{same_of_makes, makes_of_same}
use Rattle.fdd_nodes.proofs.leaf.Leaf.makes_same.Goals as goal

named : (x x' y y' : List (List Lit)) (p : Packet) → x ≡ x' → y ≡ y' → MakesAll x y p → MakesAll x' y' p
named x x' y y' p e f h =
    subst (λ (z : List (List Lit)). MakesAll z y' p) e (subst (λ (z : List (List Lit)). MakesAll x z p) f h)

pub returns-then-eq : goal.returns-then-eq
returns-then-eq c = (λ _. one_leaf_same _ _ c.args.packet.now (sym c.eq.ensures ∙ c.if-eq.true), λ _. refl)

pub returns-then-makes_all : goal.returns-then-makes_all
returns-then-makes_all c =
    let s = c.deref.ensures.value ∙ c.self.view_is in
    let o = c.deref-2.ensures.value ∙ c.other.view_is in
    let o' = c.deref-then-makes_all.ensures.value ∙ c.other.view_is in
    let s' = c.deref-then-makes_all-2.ensures.value ∙ c.self.view_is in (
      λ h. same_of_makes _ _ _ (named _ _ _ _ _ s o (c.makes_all.ensures.0 c.if-makes_all.true)) (named _ _ _ _ _ o' s' (c.makes_all-then-makes_all.ensures.0 h)),
      λ h. c.makes_all-then-makes_all.ensures.1 (named _ _ _ _ _ (sym o') (sym s') (makes_of_same _ _ _ h).1),
    )

pub returns-else-makes_all : goal.returns-else-makes_all
returns-else-makes_all c =
    let s = c.deref.ensures.value ∙ c.self.view_is in
    let o = c.deref-2.ensures.value ∙ c.other.view_is in (
      λ h. absurd (false≢true (sym c.if-makes_all.false ∙ h)),
      λ h. c.makes_all.ensures.1 (named _ _ _ _ _ (sym s) (sym o) (makes_of_same _ _ _ h).0),
    )
