use Rattle.std.proofs.Common.{drop}
use Rattle.std.specs.Prelude.{◌↔◌}
use Rattle.leaf_actions.specs.Settable.{CopyCanBeSet}
use Rattle.leaf_actions.proofs.settable.copy_can_be_set.Given as goal

abbrev pub invariant-loop-l : goal.invariant-loop-l
invariant-loop-l l = CopyCanBeSet (drop l.l-index l.lits) ↔ CopyCanBeSet l.lits
