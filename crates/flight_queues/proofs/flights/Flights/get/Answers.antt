use Rattle.std.proofs.Common.{◌≡◌, ◌≤◌, inl, inr, List, length, Some, option_map, slice_get, refl, sym, ap, subst, ◌∙◌, arith}
use Rattle.std.proofs.lemmas.Bool.{cases_lt}
use Rattle.nk_values.specs.Members.{IsIn}
use Rattle.packet_tracer.specs.declared.flight.Flight.{Flight}
use Rattle.flow_index.proofs.Lists.{read, at-in, beyond}
use Rattle.flight_queues.specs.declared.numbered.NumberedFlight.{NumberedFlight}
use Rattle.flight_queues.specs.Merged.{AreRising, found, marked, numbers_of}
use Rattle.flight_queues.proofs.Lists.{no-none, read-list, single-get}
use Rattle.flight_queues.proofs.Merging.{merged-length, marked-within, in-marked, rising, singles}
use Rattle.flight_queues.proofs.flights.Flights.get.Goals as goal

pub returns-in_err-mark : goal.returns-in_err-mark
returns-in_err-mark c =
    let marks = c.self.inside.marks.items in
    let past : length marks ≤ c.args.place = elim (cases_lt c.args.place (length marks)) [
      | inl l ↦ no-none (c.in_err-mark.ensures.variant.1 (omega (arith, l, c.self.inside.marks.ok.0)))
      | inr g ↦ g
    ] in
    let long = merged-length c.self.inside.queues.items marks c.self.inside.next c.self.invariant.marked in
    ap (option_map (λ f. f.now)) c.from_residual.ensures
    ∙ sym (beyond c.args.self.now c.args.place (omega (arith, past, long, ap (λ (fs : List Flight). length fs) c.self.view_is)))

pub index-requires : goal.index-requires
index-requires c =
    let marks = c.self.inside.marks.items in
    let mark = c.in_ok-mark.mark.now in
    let within = c.in_ok-mark.ensures.variant.0 refl in
    let at : slice_get marks c.args.place ≡ Some mark = read marks c.args.place mark (omega (arith, within, c.self.inside.marks.ok.0)) c.in_ok-mark.ensures.lookup in
    omega (arith, marked-within c.self.inside.queues.items marks c.self.inside.next c.self.invariant.marked mark (at-in marks c.args.place mark at), c.self.inside.queues.ok.0)

pub flight-requires-clause-rising : goal.flight-requires-clause-rising
flight-requires-clause-rising c =
    let queues = c.self.inside.queues.items in
    let marks = c.self.inside.marks.items in
    let mark = c.in_ok-mark.mark.now in
    let within = c.in_ok-mark.ensures.variant.0 refl in
    let at : slice_get marks c.args.place ≡ Some mark = read marks c.args.place mark (omega (arith, within, c.self.inside.marks.ok.0)) c.in_ok-mark.ensures.lookup in
    let there = marked-within queues marks c.self.inside.next c.self.invariant.marked mark (at-in marks c.args.place mark at) in
    subst AreRising (sym (read-list queues mark.place c.index.result.now there c.index.ensures)) (rising queues marks c.self.inside.next c.self.invariant.marked mark.place)

pub flight-requires-clause-held : goal.flight-requires-clause-held
flight-requires-clause-held c =
    let queues = c.self.inside.queues.items in
    let marks = c.self.inside.marks.items in
    let mark = c.in_ok-mark.mark.now in
    let within = c.in_ok-mark.ensures.variant.0 refl in
    let at : slice_get marks c.args.place ≡ Some mark = read marks c.args.place mark (omega (arith, within, c.self.inside.marks.ok.0)) c.in_ok-mark.ensures.lookup in
    let there = marked-within queues marks c.self.inside.next c.self.invariant.marked mark (at-in marks c.args.place mark at) in
    subst (λ (es : List NumberedFlight). IsIn (numbers_of es) mark.number) (sym (read-list queues mark.place c.index.result.now there c.index.ensures)) (in-marked queues marks c.self.inside.next c.self.invariant.marked mark (at-in marks c.args.place mark at))

pub returns : goal.returns
returns c =
    let queues = c.self.inside.queues.items in
    let marks = c.self.inside.marks.items in
    let mark = c.in_ok-mark.mark.now in
    let within = c.in_ok-mark.ensures.variant.0 refl in
    let at : slice_get marks c.args.place ≡ Some mark = read marks c.args.place mark (omega (arith, within, c.self.inside.marks.ok.0)) c.in_ok-mark.ensures.lookup in
    let there = marked-within queues marks c.self.inside.next c.self.invariant.marked mark (at-in marks c.args.place mark at) in
    sym (single-get (marked queues) marks c.args.place mark c.flight.result.now (singles queues marks c.self.inside.next c.self.invariant.marked) at
    (ap (found mark.number) (sym (read-list queues mark.place c.index.result.now there c.index.ensures)) ∙ c.flight.ensures))
    ∙ ap (λ (fs : List Flight). slice_get fs c.args.place) c.self.view_is
