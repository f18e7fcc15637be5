use Rattle.std.proofs.Common.{◌≡◌, ◌++◌, take, ◌==◌}
use Rattle.std.specs.List.{filter}
use Rattle.update_plan.specs.Batches.{internal_rows}
use Rattle.update_coordinator.proofs.planned.append_internal.Given as goal

abbrev pub invariant-loop-port : goal.invariant-loop-port
invariant-loop-port l = l.rows.items ≡ l.initial.rows.items ++ internal_rows (filter (λ p. p.sw == l.sw) (take l.port-index l.ports))
