use Rattle.std.proofs.Common.{◌^◌, arith}
use Rattle.flight_queues.proofs.Keeping.{marked-to}
use Rattle.flight_queues.proofs.flights.numbers.free_number.Goals as goal

pub number_anew-requires : goal.number_anew-requires
number_anew-requires c = marked-to c.args.queues.now.items c.args.marks.now.items c.args.next (2 ^ 64) c.requires (omega (arith, c.ranges.next.fits))
