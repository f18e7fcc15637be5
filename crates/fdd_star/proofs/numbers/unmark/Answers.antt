use Rattle.std.specs.Prelude.{slice_index_or, slice_set}
use Rattle.std.proofs.Common.{arith, false, refl, sym, subst, List, ℕ}
use Rattle.std.proofs.lemmas.List.{take_more}
use Rattle.fdd_star.proofs.MarkLaws.{Unmarks, index_in, marked_within, unmarks_more}
use Rattle.fdd_star.proofs.numbers.unmark.Goals as goal

pub index_mut-requires : goal.index_mut-requires
index_mut-requires c =
    let b = marked_within c.args.numbers.now c.args.marks.now.items c.loop-number.marks.items _ _ c.requires c.loop-number.invariant (index_in c.args.numbers.now c.loop-number.number-index 0 c.loop-number-test.true) in
    let k = c.loop-number.marks.ok in
    omega (arith, b, k)

pub loop-number-preserved : goal.loop-number-preserved
loop-number-preserved c =
    let number = slice_index_or c.args.numbers.now c.loop-number.number-index 0 in
    subst (λ (ns : List ℕ). Unmarks ns c.args.marks.now.items (slice_set c.loop-number.marks.items number false)) (sym (take_more c.args.numbers.now c.loop-number.number-index 0 c.loop-number-test.true))
    (unmarks_more _ number _ c.loop-number.marks.items _ refl c.loop-number.invariant)
