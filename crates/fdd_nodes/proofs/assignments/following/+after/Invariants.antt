use Rattle.std.proofs.Common.{◌+◌, length}
use Rattle.fdd_nodes.proofs.assignments.following.+after.Given as goal

abbrev pub decreases-push_after : goal.decreases-push_after
decreases-push_after l = length l.lits.now + length l.later.now
