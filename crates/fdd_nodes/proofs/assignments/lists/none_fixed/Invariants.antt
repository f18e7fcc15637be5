use Rattle.std.proofs.Common.{drop}
use Rattle.std.specs.Prelude.{◌↔◌}
use Rattle.fdd_nodes.specs.Makes.{IsDisjointFrom}
use Rattle.fdd_nodes.proofs.assignments.lists.none_fixed.Given as goal

abbrev pub invariant-loop-l : goal.invariant-loop-l
invariant-loop-l l = IsDisjointFrom l.cell (drop l.l-index l.lits) ↔ IsDisjointFrom l.cell l.lits
