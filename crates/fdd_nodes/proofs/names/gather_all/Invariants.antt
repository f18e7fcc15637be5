use Rattle.std.proofs.Common.{take}
use Rattle.fdd_nodes.specs.Names.{Gathers}
use Rattle.fdd_nodes.proofs.names.gather_all.Given as goal

abbrev pub invariant-loop-l : goal.invariant-loop-l
invariant-loop-l l = Gathers (take l.l-index l.lits) l.fn.names.items l.names.items
