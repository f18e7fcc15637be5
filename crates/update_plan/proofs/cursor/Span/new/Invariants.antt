use Rattle.std.proofs.Common.{◌≡◌, ◌<◌, ◌≤◌, ◌⊎◌, ◌==◌, ℕ, false, Some, slice_get}
use Rattle.nk_values.specs.declared.rows.PortRows.{PortRows}
use Rattle.update_plan.proofs.cursor.Span.new.Given as goal

abbrev pub invariant-loop-place : goal.invariant-loop-place
invariant-loop-place l = (k : ℕ) (p : PortRows) → k < l.place → slice_get l.ports k ≡ Some p → ((p.sw == l.sw) ≡ false) ⊎ ((l.first ≤ k) × (k < l.end))
