use Rattle.std.proofs.Common.{length, ◌+◌, ◌-◌}
use Rattle.fdd_star.proofs.last.LastCopies.keep.Given as goal

abbrev pub decreases-loop-self : goal.decreases-loop-self
decreases-loop-self l = l.number + 1 - length l.self.copies.items
