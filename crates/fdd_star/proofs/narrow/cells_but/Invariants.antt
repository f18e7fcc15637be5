use Rattle.std.proofs.Common.{take}
use Rattle.fdd_star.specs.Narrow.{AreBut}
use Rattle.fdd_star.proofs.narrow.cells_but.Given as goal

abbrev pub invariant-loop-cell : goal.invariant-loop-cell
invariant-loop-cell l = AreBut (take l.cell-index l.cells) l.l l.known l.left.items
