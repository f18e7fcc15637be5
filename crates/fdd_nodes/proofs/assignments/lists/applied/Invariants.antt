use Rattle.std.proofs.Common.{◌≡◌, drop}
use Rattle.fdd_nodes.specs.Makes.{made}
use Rattle.fdd_nodes.proofs.assignments.lists.applied.Given as goal

abbrev pub invariant-loop-l : goal.invariant-loop-l
invariant-loop-l l = made (drop l.l-index l.lits) l.changed ≡ made l.lits l.packet
