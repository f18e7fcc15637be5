use Rattle.std.proofs.Common.{◌≡◌, ◌++◌, take}
use Rattle.update_coordinator.proofs.planned.append.Given as goal

abbrev pub invariant-loop-row : goal.invariant-loop-row
invariant-loop-row l = l.rows.items ≡ l.initial.rows.items ++ take l.row-index l.more
