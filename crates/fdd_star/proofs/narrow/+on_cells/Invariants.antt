use Rattle.std.proofs.Common.{◌+◌, ◌*◌}
use Rattle.fdd_store.specs.Stores.{tree_at}
use Rattle.fdd_store.proofs.ForkLaws.{level}
use Rattle.fdd_star.proofs.narrow.+on_cells.Given as goal

abbrev pub decreases-on_cells : goal.decreases-on_cells
decreases-on_cells l = 2 * level (tree_at l.store.now l.a) + 1

abbrev pub decreases-on_sides : goal.decreases-on_sides
decreases-on_sides l = 2 * level (tree_at l.store.now l.a)
