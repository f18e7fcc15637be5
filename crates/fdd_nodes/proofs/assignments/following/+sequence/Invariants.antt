use Rattle.std.proofs.Common.{length}
use Rattle.fdd_nodes.proofs.assignments.following.+sequence.Given as goal

abbrev pub decreases-is_after : goal.decreases-is_after
decreases-is_after l = length l.all.now
