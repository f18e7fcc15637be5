use Rattle.std.proofs.Common.{length, ◌+◌, ◌-◌}
use Rattle.fdd_star.specs.Marks.{KeepsMarks}
use Rattle.fdd_star.proofs.numbers.grow.Given as goal

abbrev pub invariant-loop-marks : goal.invariant-loop-marks
invariant-loop-marks l = KeepsMarks l.fn.marks.items l.marks.items

abbrev pub decreases-loop-marks : goal.decreases-loop-marks
decreases-loop-marks l = l.number + 1 - length l.marks.items
