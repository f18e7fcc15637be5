use Rattle.std.proofs.Common.{◌≡◌, drop}
use Rattle.fdd_nodes.specs.Cells.{whole_cell}
use Rattle.fdd_nodes.specs.Makes.{made}
use Rattle.fdd_nodes.proofs.path.cell_of.Given as goal

abbrev pub invariant-loop-l : goal.invariant-loop-l
invariant-loop-l l = made (drop l.l-index l.trues) l.cell ≡ made l.trues whole_cell
