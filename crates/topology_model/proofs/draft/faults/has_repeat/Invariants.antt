use Rattle.std.proofs.Common.{◌≡◌, drop}
use Rattle.topology_model.specs.Lines.{has_repeat}
use Rattle.topology_model.proofs.draft.faults.has_repeat.Given as goal

abbrev pub invariant-loop-i : goal.invariant-loop-i
invariant-loop-i l = has_repeat (drop l.i l.numbers) ≡ has_repeat l.numbers
