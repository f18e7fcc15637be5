use Rattle.std.proofs.Common.{arith}
use Rattle.workload_gen.proofs.Summing.{sum-more}
use Rattle.workload_gen.proofs.sums.sum.Goals as goal

pub loop-number-preserved : goal.loop-number-preserved
loop-number-preserved c =
    let more = sum-more c.args.numbers.now c.loop-number.number-index c.loop-number-test.true in
    let so_far = c.loop-number.invariant in
    let added = c.saturating_add-total.ensures in
    omega (arith, more, so_far, added)
