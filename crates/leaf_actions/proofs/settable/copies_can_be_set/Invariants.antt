use Rattle.std.proofs.Common.{drop}
use Rattle.std.specs.Prelude.{◌↔◌}
use Rattle.leaf_actions.specs.Settable.{CopiesCanBeSet}
use Rattle.leaf_actions.proofs.settable.copies_can_be_set.Given as goal

abbrev pub invariant-loop-c : goal.invariant-loop-c
invariant-loop-c l = CopiesCanBeSet (drop l.c-index l.copies) ↔ CopiesCanBeSet l.copies
