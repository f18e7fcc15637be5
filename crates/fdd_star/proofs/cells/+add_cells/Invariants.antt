use Rattle.fdd_store.specs.Stores.{tree_at}
use Rattle.fdd_store.proofs.ForkLaws.{level}
use Rattle.fdd_star.proofs.cells.+add_cells.Given as goal

abbrev pub decreases-add_cells : goal.decreases-add_cells
decreases-add_cells l = level (tree_at l.store.now l.a)
