use Rattle.std.proofs.Common.{◌+◌, length}
use Rattle.fdd_nodes.proofs.covering.+covers.Given as goal

abbrev pub decreases-covers : goal.decreases-covers
decreases-covers l = length l.lits.now + length l.later.now
