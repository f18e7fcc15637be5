use Rattle.std.proofs.Common.{◌+◌}
use Rattle.fdd_nodes.specs.declared.node.Node.{size-Node}
use Rattle.fdd_nodes.proofs.apart.+parting.Given as goal

abbrev pub decreases-parting : goal.decreases-parting
decreases-parting l = size-Node l.a.now + size-Node l.b.now
