use Rattle.std.proofs.Common.{[], take}
use Rattle.fdd_store.specs.Leaves.{AddsCopies}
use Rattle.fdd_apart.proofs.kinds.stripped.Given as goal

abbrev pub invariant-loop-c : goal.invariant-loop-c
invariant-loop-c l = AddsCopies l.cell (take l.c-index l.copies) [] l.leaf
