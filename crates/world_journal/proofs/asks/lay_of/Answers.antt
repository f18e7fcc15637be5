use Rattle.world_journal.specs.Asking.{LaysBack}
use Rattle.world_journal.proofs.Posting.{still-posted}
use Rattle.world_journal.proofs.asks.lay_of.Goals as goal

pub returns-in-Some : goal.returns-in-Some
returns-in-Some g c =
    rw (c.in-Some.is, ← c.there.view_is) (still-posted (LaysBack g.L.RunName.all) c.there.inside.run c.lay.new.self (g.P.Poster.posts c.there.inside.pen) (c.lay.ensures.back, c.lay.ensures.rest))
