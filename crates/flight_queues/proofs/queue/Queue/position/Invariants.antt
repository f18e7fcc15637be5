use Rattle.std.proofs.Common.{◌-◌, ◌≤◌, length}
use Rattle.flight_queues.specs.Merged.{numbers_of}
use Rattle.flight_queues.proofs.Rising.{index_of}
use Rattle.flight_queues.proofs.queue.Queue.position.Given as goal

abbrev pub invariant-loop-low : goal.invariant-loop-low
invariant-loop-low l = (l.low ≤ index_of l.number (numbers_of l.self)) × (index_of l.number (numbers_of l.self) ≤ l.high) × (l.high ≤ length l.self)

abbrev pub decreases-loop-low : goal.decreases-loop-low
decreases-loop-low l = l.high - l.low
