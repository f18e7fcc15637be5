use Rattle.std.proofs.Common.{◌≡◌, ◌+◌, ◌*◌, take}
use Rattle.workload_gen.specs.Counts.{sum_of}
use Rattle.workload_gen.proofs.sums.Sums.skip.Given as goal

abbrev pub invariant-loop-block : goal.invariant-loop-block
invariant-loop-block l = l.left + sum_of (take (8 * l.block) l.self-inside.numbers.items) ≡ l.fn.number
