use Rattle.std.proofs.Common.{List, length, sym, ap, ◌∙◌}
use Rattle.packet_tracer.specs.declared.flight.Flight.{Flight}
use Rattle.flight_queues.proofs.Merging.{merged-length}
use Rattle.flight_queues.proofs.flights.Flights.len.Goals as goal

pub returns : goal.returns
returns c =
    c.len.ensures ∙ c.self.inside.marks.ok.0 ∙ sym (merged-length c.self.inside.queues.items c.self.inside.marks.items c.self.inside.next c.self.invariant.marked)
    ∙ ap (λ (fs : List Flight). length fs) c.self.view_is
