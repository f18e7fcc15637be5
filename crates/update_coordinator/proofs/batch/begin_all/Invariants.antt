use Rattle.std.proofs.Common.{◌≡◌, ◌<◌, ℕ, Some, length, slice_get}
use Rattle.update_plan.specs.declared.cursor.Cursor.{Cursor}
use Rattle.update_plan.specs.declared.cursor.Span.{Span}
use Rattle.update_plan.specs.Reading.{cursor_at}
use Rattle.update_coordinator.proofs.batch.begin_all.Given as goal

abbrev pub invariant-loop-place : goal.invariant-loop-place
invariant-loop-place l = (length l.cursors ≡ length l.fn.cursors) × ((k : ℕ) (x : Cursor) (span : Span) → k < l.place → slice_get l.cursors k ≡ Some x → slice_get l.spans k ≡ Some span → x ≡ cursor_at span)
