use Rattle.std.proofs.Common.{take}
use Rattle.fdd_nodes.specs.Trees.{IsSetBy}
use Rattle.fdd_star.specs.Named.{Gains}
use Rattle.fdd_star.proofs.names.add_copies.Given as goal

abbrev pub invariant-loop-copy : goal.invariant-loop-copy
invariant-loop-copy l = Gains (IsSetBy (take l.copy-index l.copies)) l.fn.names.keys l.names.keys
