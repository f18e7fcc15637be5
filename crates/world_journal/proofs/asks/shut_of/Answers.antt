use Rattle.world_journal.specs.Calls.{Shuts, place_of, side_of}
use Rattle.world_journal.specs.Journals.{switches}
use Rattle.world_journal.proofs.Posting.{still-posted}
use Rattle.world_journal.proofs.asks.shut_of.Goals as goal

pub returns-in-Some-clause-answer : goal.returns-in-Some-clause-answer
returns-in-Some-clause-answer g c =
    let n = switches g.L.RunName.start in
    let w = c.args.seat.now.worker in
    rw (c.in-Some.is, ← c.there.view_is) (still-posted (λ old new. Shuts (side_of n w) (place_of n w) old new c.shut.result) c.there.inside.run c.shut.new.self (g.P.Poster.posts c.there.inside.pen) c.shut.ensures.answer)
