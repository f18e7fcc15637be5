use Rattle.std.proofs.Common.{◌≡◌, ℕ, Some, slice_get, sym, ap, ◌∙◌}
use Rattle.flow_index.proofs.Lists.{read-of, at-within, some-is}
use Rattle.flight_queues.specs.declared.numbered.NumberedFlight.{NumberedFlight}
use Rattle.flight_queues.specs.Merged.{found}
use Rattle.flight_queues.proofs.Finding.{found-at}
use Rattle.flight_queues.proofs.queue.Queue.flight.Goals as goal

pub returns : goal.returns
returns c =
    let es = c.args.self.now in
    let k = c.position-position.result in
    let has = c.position-position.ensures in
    let at : slice_get es k ≡ Some c.index.result.now = read-of c.self.inside.copies.items es k c.index.result.now c.self.view_is (at-within es k has.0 has.1) c.index.ensures in
    let same : has.0 ≡ c.index.result.now = some-is has.0 c.index.result.now (sym has.1 ∙ at) in
    ap (λ (n : ℕ). found n es) (sym has.2 ∙ ap (λ (e : NumberedFlight). e.number) same)
    ∙ found-at 0 c.requires.rising.0 es k c.index.result.now c.requires.rising.1 at
