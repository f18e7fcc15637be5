use Rattle.nk_values.specs.Members.{SameMembers}
use Rattle.fdd_nodes.proofs.leaf.put_all.Given as goal

abbrev pub invariant-loop-copy : goal.invariant-loop-copy
invariant-loop-copy l = SameMembers l.leaf l.yielded
