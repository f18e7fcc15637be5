use Rattle.std.proofs.Common.{◌≡◌, ℕ, ◌-◌, ◌≤◌, ◌==◌, ◌&&◌, cond, length, take, Some, None}
use Rattle.std.specs.HashMap.{spare}
use Rattle.std.specs.List.{list_any}
use Rattle.topology_model.specs.Ends.{entry}
use Rattle.topology_model.proofs.draft.adding.put_edges.Given as goal

abbrev pub invariant-loop-port : goal.invariant-loop-port
invariant-loop-port l = record {
  edges : (e : ℕ × ℕ) → entry l.far_ends e ≡ cond (l.sw == e.0 && list_any (λ n. n == e.1) (take l.port-index l.ports)) (Some None) (entry l.initial.far_ends e);
  room : length l.ports - l.port-index ≤ spare l.far_ends;
}
