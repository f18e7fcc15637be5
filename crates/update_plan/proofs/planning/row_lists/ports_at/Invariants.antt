use Rattle.std.proofs.Common.{◌≡◌, map, ◌==◌}
use Rattle.std.specs.List.{filter}
use Rattle.update_plan.proofs.planning.row_lists.ports_at.Given as goal

abbrev pub invariant-loop-port : goal.invariant-loop-port
invariant-loop-port l = map (λ p. p.now) l.ports.items ≡ filter (λ p. p.sw == l.sw) (map (λ p. p.now) l.yielded)
