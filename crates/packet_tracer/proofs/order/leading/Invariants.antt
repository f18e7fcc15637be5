use Rattle.std.proofs.Common.{◌≡◌, ◌-◌, ◌<◌, ◌≤◌, ℕ, length, get_or}
use Rattle.packet_tracer.specs.Orders.{AreLeading}
use Rattle.packet_tracer.proofs.order.leading.Given as goal

abbrev pub invariant-loop-row : goal.invariant-loop-row
invariant-loop-row l = record {
  leading : AreLeading l.destination l.rows l.numbers.items;
  each : length l.numbers.items ≡ l.row-index;
  last : (x : ℕ) → 0 < length l.numbers.items → get_or l.numbers.items (length l.numbers.items - 1) x ≤ l.last;
}
