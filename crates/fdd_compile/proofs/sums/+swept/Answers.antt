use Rattle.std.proofs.Common.{arith, refl, ap, sym, subst, ℕ, Option, map}
use Rattle.nk_values.specs.declared.lit.Lit.{Lit}
use Rattle.fdd_store.proofs.ForkLaws.{if_ok}
use Rattle.fdd_store.proofs.StoreLaws.{gives_as, grows_itself, grows_on}
use Rattle.fdd_store.specs.Stores.{Gives, tree_at}
use Rattle.fdd_compile.specs.declared.folds.Fold.TheVariants.{Union}
use Rattle.fdd_compile.specs.Sums.{HaveAt, left_of}
use Rattle.fdd_compile.specs.Folds.{AreSmall, UnionOfAll}
use Rattle.fdd_compile.proofs.FoldLaws.{one_folded}
use Rattle.fdd_compile.proofs.SweepLaws.{bare_small, bare_there, base_few, base_normal, beside_few, beside_small, beside_sum, closed_few, closed_sum, early_small, early_there, early_within, end_sum, inner_small, late_small, late_there, late_within, left_less, rest_alone, run_normal, run_small, run_some, run_sum, run_there, run_within, swept_all, tests_left, zero_normal}
use Rattle.fdd_compile.proofs.sums.+swept.Goals as goal

pub closed-swept-requires : goal.closed-swept-requires
closed-swept-requires t c =
    let k = c.args.store.now in
    let at = subst (λ (o : Option Lit). HaveAt c.args.from o c.args.run.now) c.in-Some.is c.requires.test in
    let less = left_less c.args.from c.in-Some.test c.args.run.now at c.requires.some in
    let next = ap (λ (n : ℕ). tests_left n c.args.run.now) c.next.ensures in (
      omega (arith, less, next),
      (
        c.requires.there,
        subst (λ (n : ℕ). AreSmall (map (left_of n k) c.args.run.now)) (sym c.next.ensures) (inner_small k c.args.from c.args.whole c.in-Some.test c.args.run.now c.requires.some at c.requires.whole c.requires.small),
      ),
    )

pub closed-join-requires-clause-few : goal.closed-join-requires-clause-few
closed-join-requires-clause-few t c =
    let k = c.args.store.now in
    let at = subst (λ (o : Option Lit). HaveAt c.args.from o c.args.run.now) c.in-Some.is c.requires.test in
    let sum = subst (λ (n : ℕ). Gives c.swept.new.store c.in_ok-sum-in-Some.sum (UnionOfAll (map (left_of n k) c.args.run.now))) c.next.ensures c.in_ok-sum-in-Some.ensures.place in
    closed_few k c.args.from c.args.whole c.in-Some.test c.args.run.now c.requires.some at c.requires.whole c.requires.small c.swept.new.store _ c.in_ok-sum-in-Some.ensures.grows sum

pub closed-bare-requires-clause-small : goal.closed-bare-requires-clause-small
closed-bare-requires-clause-small t c =
    beside_small c.args.store.now c.args.from c.args.whole c.args.run.now (subst (λ (o : Option Lit). HaveAt c.args.from o c.args.run.now) c.in-None.is c.requires.test) c.requires.whole c.requires.small

pub closed-union-requires-clause-few : goal.closed-union-requires-clause-few
closed-union-requires-clause-few t c =
    beside_few c.args.store.now c.args.from c.args.whole c.args.run.now (subst (λ (o : Option Lit). HaveAt c.args.from o c.args.run.now) c.in-None.is c.requires.test) c.requires.whole c.requires.small
    c.bare.new.store _ c.in_ok-sum-in-None.ensures.grows c.in_ok-sum-in-None.ensures.place

pub closed-returns-in_ok-sum-in-Some-clause-place : goal.closed-returns-in_ok-sum-in-Some-clause-place
closed-returns-in_ok-sum-in-Some-clause-place t c =
    let k = c.args.store.now in
    let at = subst (λ (o : Option Lit). HaveAt c.args.from o c.args.run.now) c.in-Some.is c.requires.test in
    let sum = subst (λ (n : ℕ). Gives c.swept.new.store c.in_ok-sum-in-Some.sum (UnionOfAll (map (left_of n k) c.args.run.now))) c.next.ensures c.in_ok-sum-in-Some.ensures.place in
    if_ok c.join.result _ _ c.join.ensures.place (λ r g. gives_as _ r _ _ (λ x w.
    closed_sum k c.args.from c.args.whole c.in-Some.test c.args.run.now c.requires.some at c.requires.whole c.requires.small c.swept.new.store _ c.in_ok-sum-in-Some.ensures.grows sum x w) g)

pub closed-returns-in_ok-sum-in-None-clause-place : goal.closed-returns-in_ok-sum-in-None-clause-place
closed-returns-in_ok-sum-in-None-clause-place t c =
    if_ok c.union.result _ _ c.union.ensures.place (λ r g. gives_as _ r _ _ (λ x w.
    beside_sum c.args.store.now c.args.from c.args.whole c.args.run.now (subst (λ (o : Option Lit). HaveAt c.args.from o c.args.run.now) c.in-None.is c.requires.test) c.requires.whole c.requires.small
    c.bare.new.store _ c.in_ok-sum-in-None.ensures.grows c.in_ok-sum-in-None.ensures.place x w) g)

pub sweep-loop-start-init : goal.sweep-loop-start-init
sweep-loop-start-init t c = record {
  grows = grows_itself c.args.store.now;
  sum = record {
    has = c.requires.rest.has;
    made = c.requires.rest.made;
    is = one_folded Union (tree_at c.args.store.now c.args.rest) c.requires.rest.is;
  };
}

pub sweep-closed-requires : goal.sweep-closed-requires
sweep-closed-requires t c =
    let k = c.args.store.now in
    let old = c.loop-start.invariant in
    let on = c.run_end-end.ensures in
    let within = run_within k c.loop-start.store c.args.from c.args.rest c.loop-start.whole c.loop-start.start c.run_end-end.result c.args.summands.now _ c.requires.there c.requires.small old.grows old.sum (omega (arith, on.more)) refl in (
      omega (arith, within),
      (
        run_some c.loop-start.start c.run_end-end.result c.args.summands.now on.more on.most,
        (
          on.alike,
          (
            run_there k c.loop-start.store c.args.from c.args.rest c.loop-start.whole c.loop-start.start c.run_end-end.result c.args.summands.now _ c.requires.there c.requires.small old.grows old.sum (omega (arith, on.more)) refl,
            (
              run_normal k c.loop-start.store c.args.from c.args.rest c.loop-start.whole c.loop-start.start c.run_end-end.result c.args.summands.now _ c.requires.there c.requires.small old.grows old.sum (omega (arith, on.more)) refl,
              run_small k c.loop-start.store c.args.from c.args.rest c.loop-start.whole c.loop-start.start c.run_end-end.result c.args.summands.now _ c.requires.there c.requires.small old.grows old.sum (omega (arith, on.more)) refl,
            ),
          ),
        ),
      ),
    )

pub sweep-returns-in_err-whole-clause-grows : goal.sweep-returns-in_err-whole-clause-grows
sweep-returns-in_err-whole-clause-grows t c = grows_on _ _ _ c.loop-start.invariant.grows c.closed.ensures.grows

pub sweep-loop-start-preserved : goal.sweep-loop-start-preserved
sweep-loop-start-preserved t c =
    let k = c.args.store.now in
    let old = c.loop-start.invariant in
    let on = c.run_end-end.ensures in
    record {
      grows = grows_on _ _ _ old.grows c.in_ok-whole.ensures.grows;
      sum = gives_as _ _ _ _ (λ x w.
          run_sum k c.loop-start.store c.args.from c.args.rest c.loop-start.whole c.loop-start.start c.run_end-end.result c.args.summands.now _ c.requires.there c.requires.small old.grows old.sum (omega (arith, on.more)) refl x w) c.in_ok-whole.ensures.place;
    }

pub sweep-returns-clause-grows : goal.sweep-returns-clause-grows
sweep-returns-clause-grows t c = c.loop-start.invariant.grows

pub sweep-returns-clause-place : goal.sweep-returns-clause-place
sweep-returns-clause-place t c =
    gives_as _ _ _ _ (λ x w. swept_all c.args.store.now c.args.from _ x c.args.summands.now c.loop-start.start (omega (arith, c.loop-start-test.false)) w) c.loop-start.invariant.sum

pub swept-bare-requires-clause-there : goal.swept-bare-requires-clause-there
swept-bare-requires-clause-there t c =
    bare_there c.args.store.now c.args.from _ c.args.summands.now _ _ c.requires.there c.requires.small c.whole_count.ensures.none c.split_at.ensures.front c.split_at.ensures.back

pub swept-bare-requires-clause-small : goal.swept-bare-requires-clause-small
swept-bare-requires-clause-small t c =
    bare_small c.args.store.now c.args.from _ c.args.summands.now _ _ c.requires.there c.requires.small c.whole_count.ensures.none c.split_at.ensures.front c.split_at.ensures.back

pub swept-returns-then-is_empty-clause-place : goal.swept-returns-then-is_empty-clause-place
swept-returns-then-is_empty-clause-place t c =
    gives_as _ _ _ _ (λ x w.
    rest_alone c.args.store.now c.args.from _ c.args.summands.now _ _ c.requires.there c.requires.small c.whole_count.ensures.none c.split_at.ensures.front c.split_at.ensures.back
    c.bare.new.store _ c.in_ok-rest.ensures.grows c.in_ok-rest.ensures.place (sym c.if-is_empty.ensures) x w) c.in_ok-rest.ensures.place

pub swept-sweep-requires : goal.swept-sweep-requires
swept-sweep-requires t c =
    let within = late_within c.args.store.now c.args.from _ c.args.summands.now _ _ c.requires.there c.requires.small c.whole_count.ensures.none c.split_at.ensures.front c.split_at.ensures.back
    c.bare.new.store _ c.in_ok-rest.ensures.grows c.in_ok-rest.ensures.place
    c.zero.new.self _ _ _ _ c.in_ok-zero.ensures.grows c.in_ok-zero.ensures.place c.split_at-2.ensures.front c.split_at-2.ensures.back in (
      omega (arith, within),
      (
        late_there c.args.store.now c.args.from _ c.args.summands.now _ _ c.requires.there c.requires.small c.whole_count.ensures.none c.split_at.ensures.front c.split_at.ensures.back
            c.bare.new.store _ c.in_ok-rest.ensures.grows c.in_ok-rest.ensures.place
            c.zero.new.self _ _ _ _ c.in_ok-zero.ensures.grows c.in_ok-zero.ensures.place c.split_at-2.ensures.front c.split_at-2.ensures.back,
        (
          zero_normal c.args.store.now c.args.from _ c.args.summands.now _ _ c.requires.there c.requires.small c.whole_count.ensures.none c.split_at.ensures.front c.split_at.ensures.back
              c.bare.new.store _ c.in_ok-rest.ensures.grows c.in_ok-rest.ensures.place
              c.zero.new.self _ _ _ _ c.in_ok-zero.ensures.grows c.in_ok-zero.ensures.place c.split_at-2.ensures.front c.split_at-2.ensures.back,
          late_small c.args.store.now c.args.from _ c.args.summands.now _ _ c.requires.there c.requires.small c.whole_count.ensures.none c.split_at.ensures.front c.split_at.ensures.back
              c.bare.new.store _ c.in_ok-rest.ensures.grows c.in_ok-rest.ensures.place
              c.zero.new.self _ _ _ _ c.in_ok-zero.ensures.grows c.in_ok-zero.ensures.place c.split_at-2.ensures.front c.split_at-2.ensures.back,
        ),
      ),
    )

pub swept-union-requires-clause-few : goal.swept-union-requires-clause-few
swept-union-requires-clause-few t c =
    base_few c.args.store.now c.args.from _ c.args.summands.now _ _ c.requires.there c.requires.small c.whole_count.ensures.none c.split_at.ensures.front c.split_at.ensures.back
    c.bare.new.store _ c.in_ok-rest.ensures.grows c.in_ok-rest.ensures.place
    c.zero.new.self _ _ _ _ c.in_ok-zero.ensures.grows c.in_ok-zero.ensures.place c.split_at-2.ensures.front c.split_at-2.ensures.back
    c.sweep.new.store _ c.in_ok-sum.ensures.grows c.in_ok-sum.ensures.place

pub swept-returns-in_err-base-clause-grows : goal.swept-returns-in_err-base-clause-grows
swept-returns-in_err-base-clause-grows t c =
    grows_on _ _ _ c.in_ok-rest.ensures.grows (grows_on _ _ _ c.in_ok-zero.ensures.grows (grows_on _ _ _ c.in_ok-sum.ensures.grows c.union.ensures.grows))

pub swept-sweep-requires-2 : goal.swept-sweep-requires-2
swept-sweep-requires-2 t c =
    let within = early_within c.args.store.now c.args.from _ c.args.summands.now _ _ c.requires.there c.requires.small c.whole_count.ensures.none c.split_at.ensures.front c.split_at.ensures.back
    c.bare.new.store _ c.in_ok-rest.ensures.grows c.in_ok-rest.ensures.place
    c.zero.new.self _ _ _ _ c.in_ok-zero.ensures.grows c.in_ok-zero.ensures.place c.split_at-2.ensures.front c.split_at-2.ensures.back in (
      omega (arith, within),
      (
        early_there c.args.store.now c.args.from _ c.args.summands.now _ _ c.requires.there c.requires.small c.whole_count.ensures.none c.split_at.ensures.front c.split_at.ensures.back
            c.bare.new.store _ c.in_ok-rest.ensures.grows c.in_ok-rest.ensures.place
            c.zero.new.self _ _ _ _ c.in_ok-zero.ensures.grows c.in_ok-zero.ensures.place c.split_at-2.ensures.front c.split_at-2.ensures.back
            c.sweep.new.store _ c.in_ok-sum.ensures.grows c.in_ok-sum.ensures.place
            c.union.new.self _ c.in_ok-base.ensures.grows c.in_ok-base.ensures.place,
        (
          base_normal c.args.store.now c.args.from _ c.args.summands.now _ _ c.requires.there c.requires.small c.whole_count.ensures.none c.split_at.ensures.front c.split_at.ensures.back
              c.bare.new.store _ c.in_ok-rest.ensures.grows c.in_ok-rest.ensures.place
              c.zero.new.self _ _ _ _ c.in_ok-zero.ensures.grows c.in_ok-zero.ensures.place c.split_at-2.ensures.front c.split_at-2.ensures.back
              c.sweep.new.store _ c.in_ok-sum.ensures.grows c.in_ok-sum.ensures.place
              c.union.new.self _ c.in_ok-base.ensures.grows c.in_ok-base.ensures.place,
          early_small c.args.store.now c.args.from _ c.args.summands.now _ _ c.requires.there c.requires.small c.whole_count.ensures.none c.split_at.ensures.front c.split_at.ensures.back
              c.bare.new.store _ c.in_ok-rest.ensures.grows c.in_ok-rest.ensures.place
              c.zero.new.self _ _ _ _ c.in_ok-zero.ensures.grows c.in_ok-zero.ensures.place c.split_at-2.ensures.front c.split_at-2.ensures.back
              c.sweep.new.store _ c.in_ok-sum.ensures.grows c.in_ok-sum.ensures.place
              c.union.new.self _ c.in_ok-base.ensures.grows c.in_ok-base.ensures.place,
        ),
      ),
    )

pub swept-returns-clause-grows : goal.swept-returns-clause-grows
swept-returns-clause-grows t c =
    grows_on _ _ _ c.in_ok-rest.ensures.grows (grows_on _ _ _ c.in_ok-zero.ensures.grows (grows_on _ _ _ c.in_ok-sum.ensures.grows (grows_on _ _ _ c.in_ok-base.ensures.grows c.sweep-2.ensures.grows)))

pub swept-returns-clause-place : goal.swept-returns-clause-place
swept-returns-clause-place t c =
    if_ok c.sweep-2.result _ _ c.sweep-2.ensures.place (λ r g. gives_as _ r _ _ (λ x w.
    end_sum c.args.store.now c.args.from _ c.args.summands.now _ _ c.requires.there c.requires.small c.whole_count.ensures.none c.split_at.ensures.front c.split_at.ensures.back
    c.bare.new.store _ c.in_ok-rest.ensures.grows c.in_ok-rest.ensures.place
    c.zero.new.self _ _ _ _ c.in_ok-zero.ensures.grows c.in_ok-zero.ensures.place c.split_at-2.ensures.front c.split_at-2.ensures.back
    c.sweep.new.store _ c.in_ok-sum.ensures.grows c.in_ok-sum.ensures.place
    c.union.new.self _ c.in_ok-base.ensures.grows c.in_ok-base.ensures.place x w) g)
