use Rattle.std.proofs.Common.{drop}
use Rattle.std.specs.Prelude.{◌↔◌}
use Rattle.leaf_actions.specs.Staying.{Stays}
use Rattle.leaf_actions.proofs.staying.stays.Given as goal

abbrev pub invariant-loop-l : goal.invariant-loop-l
invariant-loop-l l = Stays l.cell (drop l.l-index l.lits) ↔ Stays l.cell l.lits
