use Rattle.std.proofs.Common.{drop}
use Rattle.std.specs.Prelude.{◌↔◌}
use Rattle.leaf_actions.specs.Staying.{AllStay}
use Rattle.leaf_actions.proofs.staying.all_stay.Given as goal

abbrev pub invariant-loop-copy : goal.invariant-loop-copy
invariant-loop-copy l = AllStay l.view l.cell l.out (drop l.copy-index l.copies) ↔ AllStay l.view l.cell l.out l.copies
