use Rattle.std.proofs.Common.{take}
use Rattle.std.specs.List.Sorted.{IsStrictlySortedBy}
use Rattle.fdd_nodes.specs.Copies.{copy_cmp}
use Rattle.fdd_nodes.proofs.leaf.copies.is_rising.Given as goal

abbrev pub invariant-loop-n : goal.invariant-loop-n
invariant-loop-n l = IsStrictlySortedBy copy_cmp (take l.n l.copies)
