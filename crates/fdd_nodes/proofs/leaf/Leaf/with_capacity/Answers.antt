use Rattle.std.proofs.Common.{sym, subst}
use Rattle.std.specs.List.Sorted.{IsStrictlySortedBy}
use Rattle.fdd_nodes.specs.Copies.{copy_cmp}
use Rattle.fdd_nodes.proofs.OrderLaws.{rising_none}
use Rattle.fdd_nodes.proofs.leaf.Leaf.with_capacity.Goals as goal

pub invariant_of-result : goal.invariant_of-result
invariant_of-result c = subst (IsStrictlySortedBy copy_cmp) (sym c.in_ok-copies.ensures.items) rising_none
