use Rattle.std.proofs.Common.{◌+◌, ◌*◌}
use Rattle.fdd_store.specs.Stores.{tree_at}
use Rattle.fdd_store.proofs.ForkLaws.{level}
use Rattle.fdd_store.proofs.nodes.Nodes.+node.Given as goal

abbrev pub decreases-node : goal.decreases-node
decreases-node l = 2 * level (tree_at l.store.now l.a) + 1

abbrev pub decreases-make : goal.decreases-make
decreases-make l = 2 * level (tree_at l.store.now l.a)
