use Rattle.std.proofs.Common.{◌≡◌, ℕ, ◌^◌, List, length, Some, slice_get, sym, ap, subst, ◌∙◌, arith}
use Rattle.nk_values.specs.Members.{IsIn}
use Rattle.flow_index.proofs.Lists.{read, at-in, some-is}
use Rattle.flight_queues.specs.declared.numbered.NumberedFlight.{NumberedFlight}
use Rattle.flight_queues.specs.declared.numbered.Mark.{Mark}
use Rattle.flight_queues.specs.Merged.{AreRising, queue_at, numbers_of, renumbered}
use Rattle.flight_queues.proofs.Lists.{read-list}
use Rattle.flight_queues.proofs.Merging.{marked-within, in-marked, rising, all-counted}
use Rattle.flight_queues.proofs.Keeping.{anew-none, anew-more}
use Rattle.flight_queues.proofs.flights.numbers.number_anew.Goals as goal

pub loop-place-init : goal.loop-place-init
loop-place-init c = anew-none c.args.queues.now.items c.args.marks.now.items c.requires

pub index_mut-requires : goal.index_mut-requires
index_mut-requires c =
    let marks = c.loop-place.marks.items in
    let mark = c.index-mark.result.now in
    let long = c.loop-place.invariant.long in
    let at : slice_get marks c.loop-place.place ≡ Some mark = read marks c.loop-place.place mark (omega (arith, c.loop-place-test.true, c.len-place-end.ensures, c.args.marks.now.ok.0, long)) c.index-mark.ensures in
    omega (arith, marked-within c.loop-place.queues.items marks (2 ^ 64) c.loop-place.invariant.marked mark (at-in marks c.loop-place.place mark at), c.loop-place.queues.ok.0)

pub renumber-requires-clause-rising : goal.renumber-requires-clause-rising
renumber-requires-clause-rising c =
    let queues = c.loop-place.queues.items in
    let marks = c.loop-place.marks.items in
    let mark = c.index-mark.result.now in
    let long = c.loop-place.invariant.long in
    let at : slice_get marks c.loop-place.place ≡ Some mark = read marks c.loop-place.place mark (omega (arith, c.loop-place-test.true, c.len-place-end.ensures, c.args.marks.now.ok.0, long)) c.index-mark.ensures in
    let there = marked-within queues marks (2 ^ 64) c.loop-place.invariant.marked mark (at-in marks c.loop-place.place mark at) in
    subst AreRising (sym (read-list queues mark.place c.index_mut.result.now there c.index_mut.ensures.value)) (rising queues marks (2 ^ 64) c.loop-place.invariant.marked mark.place)

pub renumber-requires-clause-held : goal.renumber-requires-clause-held
renumber-requires-clause-held c =
    let queues = c.loop-place.queues.items in
    let marks = c.loop-place.marks.items in
    let mark = c.index-mark.result.now in
    let long = c.loop-place.invariant.long in
    let at : slice_get marks c.loop-place.place ≡ Some mark = read marks c.loop-place.place mark (omega (arith, c.loop-place-test.true, c.len-place-end.ensures, c.args.marks.now.ok.0, long)) c.index-mark.ensures in
    let there = marked-within queues marks (2 ^ 64) c.loop-place.invariant.marked mark (at-in marks c.loop-place.place mark at) in
    subst (λ (es : List NumberedFlight). IsIn (numbers_of es) mark.number) (sym (read-list queues mark.place c.index_mut.result.now there c.index_mut.ensures.value))
    (in-marked queues marks (2 ^ 64) c.loop-place.invariant.marked mark (at-in marks c.loop-place.place mark at))

pub loop-place-preserved : goal.loop-place-preserved
loop-place-preserved c =
    let queues = c.loop-place.queues.items in
    let marks = c.loop-place.marks.items in
    let mark = c.index-mark.result.now in
    let long = c.loop-place.invariant.long in
    let at : slice_get marks c.loop-place.place ≡ Some mark = read marks c.loop-place.place mark (omega (arith, c.loop-place-test.true, c.len-place-end.ensures, c.args.marks.now.ok.0, long)) c.index-mark.ensures in
    let again : slice_get marks c.loop-place.place ≡ Some c.index_mut-in-loop-place.result.now = read marks c.loop-place.place c.index_mut-in-loop-place.result.now (omega (arith, c.loop-place-test.true, c.len-place-end.ensures, c.args.marks.now.ok.0, long)) c.index_mut-in-loop-place.ensures.value in
    let same : c.index_mut-in-loop-place.result.now ≡ mark = some-is c.index_mut-in-loop-place.result.now mark (sym again ∙ at) in
    let there = marked-within queues marks (2 ^ 64) c.loop-place.invariant.marked mark (at-in marks c.loop-place.place mark at) in
    anew-more c.loop-place.place queues c.args.queues.now.items marks c.args.marks.now.items mark c.index_mut-in-loop-place.result.now.place c.renumber.new.self c.loop-place.invariant at (ap (λ (m : Mark). m.place) same)
    (c.renumber.ensures ∙ ap (renumbered mark.number c.loop-place.place) (read-list queues mark.place c.index_mut.result.now there c.index_mut.ensures.value))

pub returns-clause-marked : goal.returns-clause-marked
returns-clause-marked c =
    let marks = c.loop-place.marks.items in
    let all : length marks ≡ c.loop-place.place = let long = c.loop-place.invariant.long in omega (arith, c.loop-place-test.false, c.len-place-end.ensures, c.args.marks.now.ok.0, long) in
    let count : c.loop-place.place ≡ c.len.result = omega (arith, c.len.ensures, c.loop-place.marks.ok.0, all) in
    subst (λ (n : ℕ). Rattle.flight_queues.specs.Merged.AreMarked c.loop-place.queues.items marks n) count
    (all-counted c.loop-place.queues.items marks (2 ^ 64) c.loop-place.place c.loop-place.invariant.marked c.loop-place.invariant.counted all)
