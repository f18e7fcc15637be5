use Rattle.std.proofs.Common.{ap, arith, subst, sym, ℕ, List, map}
use Rattle.fdd_nodes.specs.Trees.{Tree}
use Rattle.fdd_store.proofs.ForkLaws.{if_ok}
use Rattle.fdd_store.proofs.StoreLaws.{gives_as}
use Rattle.fdd_store.specs.Stores.{tree_at}
use Rattle.fdd_compile.specs.declared.folds.Fold.TheVariants.{Union}
use Rattle.fdd_compile.specs.Folds.{AreHeld, AreSmall, UnionOfAll}
use Rattle.fdd_compile.specs.Sums.{below_of}
use Rattle.fdd_compile.proofs.FoldLaws.{one_folded, one_normal}
use Rattle.fdd_compile.proofs.AlikeLaws.{alike_as, alike_more, alike_trans, id_held, id_put, small_alike, take_past, union_alike}
use Rattle.fdd_compile.proofs.SummandLaws.{item_in, map_more}
use Rattle.fdd_compile.proofs.SweepLaws.{one_summand}
use Rattle.fdd_compile.proofs.bare.bare.Goals as goal

pub each_is_made-requires : goal.each_is_made-requires
each_is_made-requires c = c.requires.there _ (item_in c.args.summands.now 0 c.one-item.result (omega (arith, c.in-len1.len_at_least)) c.one-item.is)

pub returns-in-len1-clause-place : goal.returns-in-len1-clause-place
returns-in-len1-clause-place c =
    let k = c.args.store.now in
    let e = one_summand k c.args.summands.now c.one-item.result (omega (arith, c.in-len1.len_at_least, c.in-len1.len_below)) c.one-item.is in
    let normal = one_normal (tree_at k c.one-item.result.below) (subst AreSmall e c.requires.small) c.each_is_made.ensures in
    record {
      has = c.requires.there _ (item_in c.args.summands.now 0 c.one-item.result (omega (arith, c.in-len1.len_at_least)) c.one-item.is);
      made = c.each_is_made.ensures;
      is = subst (λ (ts : List Tree). UnionOfAll ts (tree_at k c.one-item.result.below)) (sym e) (one_folded Union (tree_at k c.one-item.result.below) normal);
    }

pub loop-summand-init : goal.loop-summand-init
loop-summand-init c =
    let none = c.new-parts.ensures.items in
    (subst (AreHeld c.args.store.now) (sym none) (λ i m. absurd m), alike_as _ _ (ap (map (tree_at c.args.store.now)) none))

pub loop-summand-preserved : goal.loop-summand-preserved
loop-summand-preserved c =
    let k = c.args.store.now in
    let has = c.requires.there _ (item_in c.args.summands.now _ c.summand-item.result c.loop-summand-test.true c.summand-item.is) in (
      id_held k c.loop-summand.parts.items _ c.summand-item.result.below c.in_ok-put_part.ensures c.loop-summand.invariant.0 has,
      alike_more (map (tree_at k) c.loop-summand.parts.items) _ _ _ (tree_at k c.summand-item.result.below) (id_put k c.loop-summand.parts.items _ c.summand-item.result.below c.in_ok-put_part.ensures) c.loop-summand.invariant.1
          (map_more (below_of k) c.args.summands.now _ c.summand-item.result c.loop-summand-test.true c.summand-item.is),
    )

pub plain_sum-requires-clause-held : goal.plain_sum-requires-clause-held
plain_sum-requires-clause-held c = subst (AreHeld c.args.store.now) (sym c.deref.ensures.value) c.loop-summand.invariant.0

pub plain_sum-requires-clause-small : goal.plain_sum-requires-clause-small
plain_sum-requires-clause-small c =
    let k = c.args.store.now in
    let whole = ap (map (below_of k)) (take_past c.loop-summand.summand-index c.args.summands.now (omega (arith, c.loop-summand-test.false))) in
    subst (λ (xs : List ℕ). AreSmall (map (tree_at k) xs)) (sym c.deref.ensures.value) (small_alike _ _ c.loop-summand.invariant.1 (subst AreSmall (sym whole) c.requires.small))

pub returns-clause-place : goal.returns-clause-place
returns-clause-place c =
    let k = c.args.store.now in
    let whole = ap (map (below_of k)) (take_past c.loop-summand.summand-index c.args.summands.now (omega (arith, c.loop-summand-test.false))) in
    let same = alike_trans _ _ _ (alike_as _ _ (ap (map (tree_at k)) c.deref.ensures.value)) (alike_trans _ _ _ c.loop-summand.invariant.1 (alike_as _ _ whole)) in
    if_ok c.plain_sum.result _ _ c.plain_sum.ensures.place (λ r g. gives_as _ r _ _ (λ x u. union_alike _ _ x same u) g)
