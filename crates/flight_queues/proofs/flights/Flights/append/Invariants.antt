use Rattle.std.proofs.Common.{◌≡◌, ◌++◌}
use Rattle.flight_queues.proofs.flights.Flights.append.Given as goal

abbrev pub invariant-loop-flight : goal.invariant-loop-flight
invariant-loop-flight l = l.self ≡ l.fn.self ++ l.yielded
