use Rattle.std.proofs.Common.{length}
use Rattle.fdd_star.proofs.SharedLaws.{Lists}
use Rattle.fdd_star.proofs.parts.left_of.Given as goal

abbrev pub invariant-loop-l : goal.invariant-loop-l
invariant-loop-l l = Lists l.fn.missed.keys l.fn.asked.keys l.missed.keys l.asked.keys l.left.items

abbrev pub decreases-loop-l : goal.decreases-loop-l
decreases-loop-l l = length l.asked.keys
