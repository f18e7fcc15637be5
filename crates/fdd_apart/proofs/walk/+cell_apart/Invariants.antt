use Rattle.std.proofs.Common.{◌+◌}
use Rattle.fdd_store.specs.Stores.{tree_at}
use Rattle.fdd_store.proofs.ForkLaws.{level}
use Rattle.fdd_apart.proofs.walk.+cell_apart.Given as goal

abbrev pub decreases-cell_apart : goal.decreases-cell_apart
decreases-cell_apart l = level (tree_at l.store.now l.x) + level (tree_at l.store.now l.y)
