use Rattle.std.proofs.Common.{◌<◌, length, arith}
use Rattle.flight_queues.proofs.Lists.{first-left}
use Rattle.flight_queues.proofs.copies.CopiesIterator.next.Goals as goal

pub returns-clause-steps : goal.returns-clause-steps
returns-clause-steps c =
    let s = c.args.self.now in
    let within : s.place < length s.flights.now = omega (arith, c.if-self-len.false, c.len.ensures) in
    first-left (λ x. x.now) s.flights.now s.place c.get-flight.result c.get-flight.ensures within
