use Rattle.std.proofs.Common.{length, ◌-◌, ◌<◌, ◌≤◌, take, drop}
use Rattle.fdd_compile.specs.Sums.{HaveAt}
use Rattle.fdd_compile.proofs.sums.run_end.Given as goal

abbrev pub invariant-loop-end : goal.invariant-loop-end
invariant-loop-end l = (l.start < l.end) × (l.end ≤ length l.summands) × HaveAt l.from l.test (take (l.end - l.start) (drop l.start l.summands))

abbrev pub decreases-loop-end : goal.decreases-loop-end
decreases-loop-end l = length l.summands - l.end
