use Rattle.std.proofs.Common.{◌≡◌, ℕ, ◌+◌, ◌<◌, List, [], ◌∷◌, ◌++◌, nat_eq, Option, Some, slice_set, sym, ap, subst, ◌∙◌}
use Rattle.std.specs.HashMap.{get}
use Rattle.std.specs.Option.{SomeIff}
use Rattle.nk_values.specs.declared.packet.Packet.{Packet}
use Rattle.packet_tracer.specs.declared.flight.Flight.{Flight}
use Rattle.flight_queues.specs.declared.numbered.NumberedFlight.{NumberedFlight}
use Rattle.flight_queues.specs.declared.numbered.Mark.{Mark}
use Rattle.flight_queues.specs.Merged.{IsKept, merged, queue_at, switch_of}
use Rattle.flight_queues.proofs.Lists.{any-err, read-list}
use Rattle.flight_queues.proofs.Keeping.{kept-same, merged-same, set-same, pushed-kept, pushed-list}
use Rattle.flight_queues.proofs.flights.Flights.push.Goals as goal

pub invariant_of-self : goal.invariant_of-self
invariant_of-self c =
    let first = c.free_number-self-inside in
    c.queue_of.ensures.kept first.new.marks.items first.result
    (kept-same (get nat_eq c.self.inside.places) c.self.inside.queues.items first.new.queues.items c.self.inside.marks.items first.new.marks.items c.self.inside.next first.result c.self.invariant first.ensures.marked first.ensures.flights first.ensures.count)

pub invariant_of-self-in_err-push : goal.invariant_of-self-in_err-push
invariant_of-self-in_err-push c =
    let first = c.free_number-self-inside in
    let queues = c.queue_of.new.queues.items in
    let place = c.in_ok-place.place in
    let kept : IsKept (get nat_eq c.queue_of.new.places) queues first.new.marks.items first.result =
    c.queue_of.ensures.kept first.new.marks.items first.result
    (kept-same (get nat_eq c.self.inside.places) c.self.inside.queues.items first.new.queues.items c.self.inside.marks.items first.new.marks.items c.self.inside.next first.result c.self.invariant first.ensures.marked first.ensures.flights first.ensures.count) in
    let there = kept.within c.newest.result.now.sw place c.in_ok-place.ensures.found in
    let back : slice_set queues place c.push.new.self ≡ queues = set-same queues place c.push.new.self there (c.in_err-push.ensures.err ∙ read-list queues place c.index_mut.result.now there c.index_mut.ensures.value) in
    subst (λ (ms : List Mark). IsKept (get nat_eq c.queue_of.new.places) (slice_set queues place c.push.new.self) ms first.result) (sym c.in_ok-reserve.ensures.items)
    (subst (λ (qs : List (List NumberedFlight)). IsKept (get nat_eq c.queue_of.new.places) qs first.new.marks.items first.result) (sym back) kept)

pub returns-in_err-push-clause-err : goal.returns-in_err-push-clause-err
returns-in_err-push-clause-err c =
    let first = c.free_number-self-inside in
    let queues = c.queue_of.new.queues.items in
    let place = c.in_ok-place.place in
    let kept : IsKept (get nat_eq c.queue_of.new.places) queues first.new.marks.items first.result =
    c.queue_of.ensures.kept first.new.marks.items first.result
    (kept-same (get nat_eq c.self.inside.places) c.self.inside.queues.items first.new.queues.items c.self.inside.marks.items first.new.marks.items c.self.inside.next first.result c.self.invariant first.ensures.marked first.ensures.flights first.ensures.count) in
    let there = kept.within c.newest.result.now.sw place c.in_ok-place.ensures.found in
    let back : slice_set queues place c.push.new.self ≡ queues = set-same queues place c.push.new.self there (c.in_err-push.ensures.err ∙ read-list queues place c.index_mut.result.now there c.index_mut.ensures.value) in
    any-err c.from_residual-in_err-push.result
    ((λ i. merged (back i) (c.in_ok-reserve.ensures.items i)) ∙ merged-same first.new.queues.items queues first.new.marks.items c.queue_of.ensures.same ∙ first.ensures.merged ∙ c.self.view_is)

pub invariant_of-self-2 : goal.invariant_of-self-2
invariant_of-self-2 c =
    let first = c.free_number-self-inside in
    let queues = c.queue_of.new.queues.items in
    let place = c.in_ok-place.place in
    let kept : IsKept (get nat_eq c.queue_of.new.places) queues first.new.marks.items first.result =
    c.queue_of.ensures.kept first.new.marks.items first.result
    (kept-same (get nat_eq c.self.inside.places) c.self.inside.queues.items first.new.queues.items c.self.inside.marks.items first.new.marks.items c.self.inside.next first.result c.self.invariant first.ensures.marked first.ensures.flights first.ensures.count) in
    let at : get nat_eq c.queue_of.new.places (switch_of c.args.flight) ≡ Some place = ap (λ (p : Packet). get nat_eq c.queue_of.new.places p.sw) (sym c.newest.ensures) ∙ c.in_ok-place.ensures.found in
    let there = kept.within (switch_of c.args.flight) place at in
    let now : c.push.new.self ≡ queue_at queues place ++ record { number = first.result; flight = c.args.flight } ∷ [] =
    c.in_ok-push.ensures.ok ∙ ap (λ (es : List NumberedFlight). es ++ record { number = first.result; flight = c.args.flight } ∷ []) (read-list queues place c.index_mut.result.now there c.index_mut.ensures.value) in
    let marks : c.push_back_reserved.new.self.items ≡ first.new.marks.items ++ record { number = first.result; place = place } ∷ [] =
    c.push_back_reserved.ensures.items ∙ ap (λ (ms : List Mark). ms ++ record { number = first.result; place = place } ∷ []) c.in_ok-reserve.ensures.items in
    let sum : SomeIff (Some c.in_ok-after.after) (first.result + 1 < 18446744073709551616) (first.result + 1) = subst (λ (o : Option ℕ). SomeIff o (first.result + 1 < 18446744073709551616) (first.result + 1)) c.in_ok-after.ensures.ok_part c.checked_add.ensures in
    subst (λ (n : ℕ). IsKept (get nat_eq c.queue_of.new.places) (slice_set queues place c.push.new.self) c.push_back_reserved.new.self.items n) (sym sum.1)
    (subst (λ (ms : List Mark). IsKept (get nat_eq c.queue_of.new.places) (slice_set queues place c.push.new.self) ms (first.result + 1)) (sym marks)
    (pushed-kept (get nat_eq c.queue_of.new.places) queues first.new.marks.items first.result place c.args.flight kept at c.push.new.self now))

pub returns-clause-ok : goal.returns-clause-ok
returns-clause-ok c =
    let first = c.free_number-self-inside in
    let queues = c.queue_of.new.queues.items in
    let place = c.in_ok-place.place in
    let kept : IsKept (get nat_eq c.queue_of.new.places) queues first.new.marks.items first.result =
    c.queue_of.ensures.kept first.new.marks.items first.result
    (kept-same (get nat_eq c.self.inside.places) c.self.inside.queues.items first.new.queues.items c.self.inside.marks.items first.new.marks.items c.self.inside.next first.result c.self.invariant first.ensures.marked first.ensures.flights first.ensures.count) in
    let at : get nat_eq c.queue_of.new.places (switch_of c.args.flight) ≡ Some place = ap (λ (p : Packet). get nat_eq c.queue_of.new.places p.sw) (sym c.newest.ensures) ∙ c.in_ok-place.ensures.found in
    let there = kept.within (switch_of c.args.flight) place at in
    let now : c.push.new.self ≡ queue_at queues place ++ record { number = first.result; flight = c.args.flight } ∷ [] =
    c.in_ok-push.ensures.ok ∙ ap (λ (es : List NumberedFlight). es ++ record { number = first.result; flight = c.args.flight } ∷ []) (read-list queues place c.index_mut.result.now there c.index_mut.ensures.value) in
    let marks : c.push_back_reserved.new.self.items ≡ first.new.marks.items ++ record { number = first.result; place = place } ∷ [] =
    c.push_back_reserved.ensures.items ∙ ap (λ (ms : List Mark). ms ++ record { number = first.result; place = place } ∷ []) c.in_ok-reserve.ensures.items in
    ap (merged (slice_set queues place c.push.new.self)) marks
    ∙ pushed-list (get nat_eq c.queue_of.new.places) queues first.new.marks.items first.result place c.args.flight kept at c.push.new.self now
    ∙ ap (λ (fs : List Flight). fs ++ c.args.flight ∷ []) (merged-same first.new.queues.items queues first.new.marks.items c.queue_of.ensures.same ∙ first.ensures.merged ∙ c.self.view_is)
