use Rattle.world_journal.specs.Calls.{place_of, side_of}
use Rattle.world_journal.specs.Journals.{switches}
use Rattle.world_journal.proofs.Working.{may-work}
use Rattle.world_journal.proofs.asks.may_work.Goals as goal

pub returns-then-not-stops : goal.returns-then-not-stops
returns-then-not-stops g c h =
    let n = switches g.L.RunName.start in
    let w = c.args.seat.now.worker in
    rw (c.in-Some.is, ← c.there.view_is) (may-work (side_of n w) c.at-side.result.0 (place_of n w) c.at-side.result.1 c.there.inside.run c.stops.result c.has_end.result c.at-side.ensures.side c.at-side.ensures.place c.stops.ensures.1 c.if-not-stops.true c.has_end.ensures h)
