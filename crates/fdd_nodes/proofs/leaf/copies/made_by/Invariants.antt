use Rattle.std.proofs.Common.{◌≡◌, take}
use Rattle.fdd_nodes.specs.Trees.{outcomes}
use Rattle.fdd_nodes.proofs.leaf.copies.made_by.Given as goal

abbrev pub invariant-loop-c : goal.invariant-loop-c
invariant-loop-c l = l.all.items ≡ outcomes (take l.c-index l.copies) l.packet
