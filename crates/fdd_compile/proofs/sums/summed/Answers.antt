use Rattle.std.proofs.Common.{List, ap, map, subst, sym}
use Rattle.fdd_store.proofs.ForkLaws.{if_ok}
use Rattle.fdd_store.proofs.StoreLaws.{gives_as}
use Rattle.fdd_compile.specs.Folds.{AreSmall}
use Rattle.fdd_compile.specs.Sums.{AreThere, left_of}
use Rattle.fdd_compile.specs.declared.summand.Summand.{Summand}
use Rattle.fdd_compile.proofs.AlikeLaws.{alike_as, alike_trans, order_alike, order_there, small_alike, union_alike}
use Rattle.fdd_compile.proofs.sums.summed.Goals as goal

pub swept-requires-clause-there : goal.swept-requires-clause-there
swept-requires-clause-there c = subst (AreThere c.args.store.now) (sym c.deref.ensures.value) (order_there c.args.store.now c.args.summands.items _ c.sort_unstable_by.ensures.permutation c.requires.there)

pub swept-requires-clause-small : goal.swept-requires-clause-small
swept-requires-clause-small c =
    let k = c.args.store.now in
    subst (λ (ss : List Summand). AreSmall (map (left_of 0 k) ss)) (sym c.deref.ensures.value)
    (small_alike _ _ (order_alike (left_of 0 k) c.args.summands.items _ c.sort_unstable_by.ensures.permutation) c.requires.small)

pub returns-clause-place : goal.returns-clause-place
returns-clause-place c =
    let k = c.args.store.now in
    let same = alike_trans _ _ _ (alike_as _ _ (ap (map (left_of 0 k)) c.deref.ensures.value)) (order_alike (left_of 0 k) c.args.summands.items _ c.sort_unstable_by.ensures.permutation) in
    if_ok c.swept.result _ _ c.swept.ensures.place (λ r g. gives_as _ r _ _ (λ x u. union_alike _ _ x same u) g)
