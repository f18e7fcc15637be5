use Rattle.std.proofs.Common.{take}
use Rattle.fdd_nodes.specs.Trees.{Leaf}
use Rattle.fdd_star.specs.Cells.{LeadsOn}
use Rattle.fdd_star.proofs.cells.add_copies.Given as goal

abbrev pub invariant-loop-copy : goal.invariant-loop-copy
invariant-loop-copy l = LeadsOn (Leaf (take l.copy-index l.copies)) l.here l.fn.cells.keys l.cells.keys
