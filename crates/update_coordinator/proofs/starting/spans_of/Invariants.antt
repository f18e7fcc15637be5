use Rattle.std.proofs.Common.{◌≡◌, ℕ, Some, length, slice_get}
use Rattle.update_plan.specs.declared.cursor.Span.{Span}
use Rattle.update_coordinator.specs.Reading.{AreBetween}
use Rattle.update_coordinator.proofs.starting.spans_of.Given as goal

abbrev pub invariant-loop-sw : goal.invariant-loop-sw
invariant-loop-sw l = (length l.spans.items ≡ l.sw-index) × ((k sw : ℕ) (span : Span) → slice_get l.switches k ≡ Some sw → slice_get l.spans.items k ≡ Some span → AreBetween l.versions sw span)
