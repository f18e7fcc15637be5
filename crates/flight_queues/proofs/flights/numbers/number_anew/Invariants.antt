use Rattle.flight_queues.proofs.Keeping.{AreAnew}
use Rattle.flight_queues.proofs.flights.numbers.number_anew.Given as goal

abbrev pub invariant-loop-place : goal.invariant-loop-place
invariant-loop-place l = AreAnew l.place l.queues.items l.marks.items l.fn.queues.items l.fn.marks.items
