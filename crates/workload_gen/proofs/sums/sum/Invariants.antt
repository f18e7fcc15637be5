use Rattle.std.proofs.Common.{◌≡◌, take}
use Rattle.workload_gen.specs.Counts.{sum_to_limit}
use Rattle.workload_gen.proofs.sums.sum.Given as goal

abbrev pub invariant-loop-number : goal.invariant-loop-number
invariant-loop-number l = l.total ≡ sum_to_limit (take l.number-index l.numbers)
