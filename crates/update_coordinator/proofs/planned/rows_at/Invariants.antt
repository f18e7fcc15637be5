use Rattle.std.proofs.Common.{◌≡◌, take, ◌==◌}
use Rattle.std.specs.List.{filter}
use Rattle.update_coordinator.specs.Batches.{portion_at}
use Rattle.update_coordinator.proofs.planned.rows_at.Given as goal

abbrev pub invariant-loop-port : goal.invariant-loop-port
invariant-loop-port l = l.rows.items ≡ portion_at l.portion l.band (filter (λ p. p.sw == l.sw) (take l.port-index l.ports))
