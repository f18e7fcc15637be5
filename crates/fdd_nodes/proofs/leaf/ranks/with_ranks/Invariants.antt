use Rattle.std.proofs.Common.{◌≡◌, map}
use Rattle.fdd_nodes.specs.Ranks.{copy_of}
use Rattle.fdd_nodes.proofs.leaf.ranks.with_ranks.Given as goal

abbrev pub invariant-loop-copy : goal.invariant-loop-copy
invariant-loop-copy l = map copy_of l.all.items ≡ l.yielded
