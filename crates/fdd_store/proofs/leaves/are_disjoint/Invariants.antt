use Rattle.std.proofs.Common.{take}
use Rattle.fdd_store.specs.Leaves.{AreDisjoint}
use Rattle.fdd_store.proofs.leaves.are_disjoint.Given as goal

abbrev pub invariant-loop-c : goal.invariant-loop-c
invariant-loop-c l = AreDisjoint l.cell (take l.c-index l.copies)
