use Rattle.std.proofs.Common.{◌≡◌, ap, sym, subst, Bool}
use Rattle.nk_values.specs.declared.packet.Packet.{Packet}
use Rattle.fdd_nodes.specs.Trees.{Tree}
use Rattle.fdd_nodes.specs.Cells.{cell_of, Alike, Parts}
use Rattle.fdd_nodes.specs.Normals.{TellsTight}
use Rattle.fdd_nodes.specs.Trees.{tree}
use Rattle.fdd_nodes.proofs.NormalLaws.{loose_here, tight_node}
use Rattle.fdd_nodes.proofs.normal.+is_tight.Goals as goal

named : (a a' : Tree) (b : Bool) → a ≡ a' → TellsTight a' b → TellsTight a b
named a a' b e h = subst (λ (y : Tree). TellsTight y b) (sym e) h

pub returns-in_default : goal.returns-in_default
returns-in_default t c =
    let h1 = subst (λ (d : Packet). Alike d (tree c.deref.result.now) (tree c.deref-in-Test.result.now)) c.of.ensures c.in_default.ensures in
    let h2 = subst (λ (y : Tree). Alike (cell_of c.in-Test.l) y (tree c.deref-in-Test.result.now)) (ap tree c.deref.ensures) h1 in
    let h3 = subst (λ (y : Tree). Alike (cell_of c.in-Test.l) (tree c.in-Test.t.value) y) (ap tree c.deref-in-Test.ensures) h2 in
    named _ _ _ (ap tree c.in-Test.is) (loose_here _ _ _ h3)

pub returns-else-not-is_tight : goal.returns-else-not-is_tight
returns-else-not-is_tight t c =
    let h1 = subst (λ (d : Packet). Parts d (tree c.deref.result.now) (tree c.deref-in-Test.result.now) c.in-Some._inner) c.of.ensures c.in-Some.ensures in
    let h2 = subst (λ (y : Tree). Parts (cell_of c.in-Test.l) y (tree c.deref-in-Test.result.now) c.in-Some._inner) (ap tree c.deref.ensures) h1 in
    let h3 = subst (λ (y : Tree). Parts (cell_of c.in-Test.l) (tree c.in-Test.t.value) y c.in-Some._inner) (ap tree c.deref-in-Test.ensures) h2 in
    let tt' = subst (λ (y : Tree). TellsTight y c.is_tight.result) (ap tree c.deref-in-Test-2.ensures) c.is_tight.ensures in
    let te = subst (λ (y : Tree). TellsTight y c.is_tight-in-Test.result) (ap tree c.deref-in-Test-3.ensures) c.is_tight-in-Test.ensures in
    named _ _ _ (ap tree c.in-Test.is) (tight_node _ _ _ _ _ _ h3 tt' c.if-not-is_tight.false te)
