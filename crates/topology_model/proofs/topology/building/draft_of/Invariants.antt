use Rattle.std.proofs.Common.{◌≡◌, ◌<◌, ℕ, take, None}
use Rattle.topology_model.specs.Lines.{layout_of, fault_at}
use Rattle.topology_model.proofs.topology.building.draft_of.Given as goal

abbrev pub invariant-loop-place : goal.invariant-loop-place
invariant-loop-place l = (l.draft ≡ layout_of (take l.place l.lines)) × ((k : ℕ) → k < l.place → fault_at l.lines k ≡ None)
