use Rattle.std.proofs.Common.{◌≡◌, Some, slice_get, slice_set, sym, ap, ◌∙◌}
use Rattle.flow_index.proofs.Lists.{read-of, at-within, some-is}
use Rattle.flight_queues.specs.declared.numbered.NumberedFlight.{NumberedFlight}
use Rattle.flight_queues.specs.Merged.{renamed}
use Rattle.flight_queues.proofs.Rising.{set-map}
use Rattle.flight_queues.proofs.Finding.{renamed-at, renamed-other}
use Rattle.flight_queues.proofs.queue.Queue.renumber.Goals as goal

pub returns : goal.returns
returns c =
    let es = c.args.self.now in
    let k = c.position-position.result in
    let has = c.position-position.ensures in
    let at : slice_get es k ≡ Some c.index_mut.result.now = read-of c.self.inside.copies.items es k c.index_mut.result.now c.self.view_is (at-within es k has.0 has.1) c.index_mut.ensures.value in
    let same : c.index_mut.result.now ≡ has.0 = some-is c.index_mut.result.now has.0 (sym at ∙ has.1) in
    (λ i. slice_set (c.self.view_is i) k (record { number = c.args.to; flight = (same i).flight }))
    ∙ ap (slice_set es k) (sym (renamed-at c.args.number c.args.to has.0 has.2))
    ∙ set-map (λ (e : NumberedFlight). e.number) (renamed c.args.number c.args.to) 0 c.requires.rising.0 es k has.0 (λ y d. renamed-other c.args.number c.args.to y (λ p. d (p ∙ sym has.2))) c.requires.rising.1 has.1
