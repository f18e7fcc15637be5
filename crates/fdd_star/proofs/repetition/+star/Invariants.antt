use Rattle.std.proofs.Common.{◌+◌, ◌*◌, length}
use Rattle.fdd_nodes.proofs.OpenLaws.{open_fields}
use Rattle.fdd_star.specs.Found.{AreFound}
use Rattle.fdd_star.specs.Parts.{HasParts}
use Rattle.fdd_store.specs.Stores.{Grows, tree_at}
use Rattle.fdd_star.proofs.repetition.+star.Given as goal

abbrev pub decreases-part_in : goal.decreases-part_in
decreases-part_in l = 2 * open_fields l.scope.now.cell.now + 1

abbrev pub decreases-part_of : goal.decreases-part_of
decreases-part_of l = 2 * open_fields l.scope.now.cell.now

abbrev pub invariant-part_in-loop-l : goal.invariant-part_in-loop-l
invariant-part_in-loop-l l = Grows l.fn.store l.store × AreFound l.store l.progress.found × HasParts l.store l.scope.first.now (tree_at l.fn.store l.fn.scope.body) l.scope.cell.now l.fn.progress.missed.keys l.progress.missed.keys l.parts

abbrev pub decreases-part_in-loop-l : goal.decreases-part_in-loop-l
decreases-part_in-loop-l l = length l.parts.left.items
