use Rattle.std.proofs.Common.{◌≡◌, take}
use Rattle.fdd_nodes.proofs.leaf.copies.copied.Given as goal

abbrev pub invariant-loop-c : goal.invariant-loop-c
invariant-loop-c l = l.all.items ≡ take l.c-index l.copies
