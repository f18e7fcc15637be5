use Rattle.std.proofs.Common.{◌≡◌, drop, ◌++◌}
use Rattle.fdd_nodes.proofs.assignments.following.push_all.Given as goal

abbrev pub invariant-loop-l : goal.invariant-loop-l
invariant-loop-l l = l.out.items ++ drop l.l-index l.lits ≡ l.fn.out.items ++ l.lits
