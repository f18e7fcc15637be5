use Rattle.std.proofs.Common.{◌≡◌, drop}
use Rattle.fdd_nodes.specs.Copies.{assigned}
use Rattle.fdd_nodes.proofs.assignments.lists.assigned_in.Given as goal

abbrev pub invariant-loop-l : goal.invariant-loop-l
invariant-loop-l l = assigned (drop l.l-index l.lits) l.f ≡ assigned l.lits l.f
