use Rattle.std.proofs.Common.{ℕ, ◌<◌, List, length, remove, ap, ◌∙◌, arith}
use Rattle.flow_index.proofs.Lists.{at-within, on-some}
use Rattle.flight_queues.specs.declared.numbered.NumberedFlight.{NumberedFlight}
use Rattle.flight_queues.specs.Merged.{without}
use Rattle.flight_queues.proofs.Rising.{remove-without}
use Rattle.flight_queues.proofs.queue.Queue.take.Goals as goal

pub returns : goal.returns
returns c =
    let es = c.args.self.now in
    let k = c.position-position.result in
    let has = c.position-position.ensures in
    let within : k < length c.self.inside.copies.items = omega (arith, at-within es k has.0 has.1, ap (λ (ds : List NumberedFlight). length ds) c.self.view_is) in
    let gone = on-some c.remove.result _ (c.remove.ensures.succeeds has.0 (omega (arith, within, c.self.inside.copies.ok.0))) c.remove.ensures.items in
    gone ∙ ap (λ (ds : List NumberedFlight). remove ds k) c.self.view_is
    ∙ remove-without (λ (e : NumberedFlight). e.number) 0 c.requires.rising.0 es k has.0 c.requires.rising.1 has.1
    ∙ ap (λ (n : ℕ). without (λ (e : NumberedFlight). e.number) n es) has.2
