use Rattle.std.proofs.Common.{List, [], ◌∷◌, ◌++◌, take, refl, sym, subst, ap, ◌∙◌}
use Rattle.std.proofs.lemmas.List.{take_more}
use Rattle.nk_values.specs.declared.lit.Lit.{Lit}
use Rattle.fdd_nodes.proofs.StripLaws.{strip_disjoint}
use Rattle.fdd_store.specs.Leaves.{AreDisjoint}
use Rattle.fdd_store.proofs.LeafLaws.{free_more}
use Rattle.fdd_store.proofs.leaves.are_disjoint.Goals as goal

pub loop-c-preserved : goal.loop-c-preserved
loop-c-preserved c =
    let more = take_more c.args.copies.now c.loop-c.c-index c.c-item.result c.loop-c-test.true ∙ ap (λ (x : List Lit). take c.loop-c.c-index c.args.copies.now ++ x ∷ []) (sym c.c-item.is) in
    let kept = strip_disjoint _ _ (c.if-not-is_disjoint_from.ensures.disjoint.0 refl) in
    subst (AreDisjoint c.args.cell.now) (sym more) (free_more _ _ _ c.if-not-is_disjoint_from.ensures.copy kept c.loop-c.invariant)
