use Rattle.std.proofs.Common.{take}
use Rattle.fdd_nodes.specs.Names.{literals_of, Gathers}
use Rattle.fdd_nodes.proofs.names.gather_copies.Given as goal

abbrev pub invariant-loop-c : goal.invariant-loop-c
invariant-loop-c l = Gathers (literals_of (take l.c-index l.copies)) l.fn.names.items l.names.items
