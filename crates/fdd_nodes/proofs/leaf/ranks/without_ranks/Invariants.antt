use Rattle.std.proofs.Common.{◌≡◌, map}
use Rattle.fdd_nodes.specs.Ranks.{copy_of}
use Rattle.fdd_nodes.proofs.leaf.ranks.without_ranks.Given as goal

abbrev pub invariant-loop-one : goal.invariant-loop-one
invariant-loop-one l = l.copies.items ≡ map copy_of l.yielded
