use Rattle.std.proofs.Common.{◌≡◌, List, length, nat_eq, remove, Some, slice_get, slice_set, refl, sym, ap, subst, ◌∙◌, arith}
use Rattle.std.specs.HashMap.{get}
use Rattle.nk_values.specs.Members.{IsIn}
use Rattle.packet_tracer.specs.declared.flight.Flight.{Flight}
use Rattle.flow_index.proofs.Lists.{read, at-in}
use Rattle.flight_queues.specs.declared.numbered.NumberedFlight.{NumberedFlight}
use Rattle.flight_queues.specs.declared.numbered.Mark.{Mark}
use Rattle.flight_queues.specs.Merged.{AreRising, IsKept, merged, queue_at, numbers_of, without}
use Rattle.flight_queues.proofs.Lists.{no-none, read-list}
use Rattle.flight_queues.proofs.Merging.{merged-length, marked-within, in-marked, rising}
use Rattle.flight_queues.proofs.Keeping.{removed-kept, removed-list}
use Rattle.flight_queues.proofs.flights.Flights.remove.Goals as goal

pub index_mut-requires : goal.index_mut-requires
index_mut-requires c =
    let marks = c.self.inside.marks.items in
    let mark = c.in-Some.mark in
    let within = c.in-Some.ensures.variant.0 refl in
    let at : slice_get marks c.args.place ≡ Some mark = read marks c.args.place mark (omega (arith, within, c.self.inside.marks.ok.0)) c.in-Some.ensures.value in
    omega (arith, marked-within c.self.inside.queues.items marks c.self.inside.next c.self.invariant.marked mark (at-in marks c.args.place mark at), c.self.inside.queues.ok.0)

pub take-requires-clause-rising : goal.take-requires-clause-rising
take-requires-clause-rising c =
    let queues = c.self.inside.queues.items in
    let marks = c.self.inside.marks.items in
    let mark = c.in-Some.mark in
    let within = c.in-Some.ensures.variant.0 refl in
    let at : slice_get marks c.args.place ≡ Some mark = read marks c.args.place mark (omega (arith, within, c.self.inside.marks.ok.0)) c.in-Some.ensures.value in
    let there = marked-within queues marks c.self.inside.next c.self.invariant.marked mark (at-in marks c.args.place mark at) in
    subst AreRising (sym (read-list queues mark.place c.index_mut.result.now there c.index_mut.ensures.value)) (rising queues marks c.self.inside.next c.self.invariant.marked mark.place)

pub take-requires-clause-held : goal.take-requires-clause-held
take-requires-clause-held c =
    let queues = c.self.inside.queues.items in
    let marks = c.self.inside.marks.items in
    let mark = c.in-Some.mark in
    let within = c.in-Some.ensures.variant.0 refl in
    let at : slice_get marks c.args.place ≡ Some mark = read marks c.args.place mark (omega (arith, within, c.self.inside.marks.ok.0)) c.in-Some.ensures.value in
    let there = marked-within queues marks c.self.inside.next c.self.invariant.marked mark (at-in marks c.args.place mark at) in
    subst (λ (es : List NumberedFlight). IsIn (numbers_of es) mark.number) (sym (read-list queues mark.place c.index_mut.result.now there c.index_mut.ensures.value))
    (in-marked queues marks c.self.inside.next c.self.invariant.marked mark (at-in marks c.args.place mark at))

pub invariant_of-self : goal.invariant_of-self
invariant_of-self c =
    let queues = c.self.inside.queues.items in
    let marks = c.self.inside.marks.items in
    let mark = c.in-Some.mark in
    let within = c.in-Some.ensures.variant.0 refl in
    let at : slice_get marks c.args.place ≡ Some mark = read marks c.args.place mark (omega (arith, within, c.self.inside.marks.ok.0)) c.in-Some.ensures.value in
    let there = marked-within queues marks c.self.inside.next c.self.invariant.marked mark (at-in marks c.args.place mark at) in
    let now : c.take.new.self ≡ without (λ (e : NumberedFlight). e.number) mark.number (queue_at queues mark.place) =
    c.take.ensures ∙ ap (without (λ (e : NumberedFlight). e.number) mark.number) (read-list queues mark.place c.index_mut.result.now there c.index_mut.ensures.value) in
    subst (λ (ms : List Mark). IsKept (get nat_eq c.self.inside.places) (slice_set queues mark.place c.take.new.self) ms c.self.inside.next) (sym c.in-Some.ensures.items)
    (removed-kept (get nat_eq c.self.inside.places) queues marks c.self.inside.next c.args.place mark c.self.invariant at c.take.new.self now)

pub returns-in-Some : goal.returns-in-Some
returns-in-Some c =
    let queues = c.self.inside.queues.items in
    let marks = c.self.inside.marks.items in
    let mark = c.in-Some.mark in
    let within = c.in-Some.ensures.variant.0 refl in
    let at : slice_get marks c.args.place ≡ Some mark = read marks c.args.place mark (omega (arith, within, c.self.inside.marks.ok.0)) c.in-Some.ensures.value in
    let there = marked-within queues marks c.self.inside.next c.self.invariant.marked mark (at-in marks c.args.place mark at) in
    let now : c.take.new.self ≡ without (λ (e : NumberedFlight). e.number) mark.number (queue_at queues mark.place) =
    c.take.ensures ∙ ap (without (λ (e : NumberedFlight). e.number) mark.number) (read-list queues mark.place c.index_mut.result.now there c.index_mut.ensures.value) in
    ap (merged (slice_set queues mark.place c.take.new.self)) c.in-Some.ensures.items
    ∙ removed-list (get nat_eq c.self.inside.places) queues marks c.self.inside.next c.args.place mark c.self.invariant at c.take.new.self now
    ∙ ap (λ (fs : List Flight). remove fs c.args.place) c.self.view_is

pub returns-in_default : goal.returns-in_default
returns-in_default c =
    let long = merged-length c.self.inside.queues.items c.self.inside.marks.items c.self.inside.next c.self.invariant.marked in
    let all = ap (λ (fs : List Flight). length fs) c.self.view_is in
    no-none (c.in_default.ensures.variant.1 (omega (arith, c.requires, long, all, c.self.inside.marks.ok.0)))
