use Rattle.world_journal.specs.Moves.{ComesIn}
use Rattle.world_journal.proofs.Onward.{comes-on}
use Rattle.world_journal.proofs.Posting.{did-posted, posts-on}
use Rattle.world_journal.proofs.asked_moves.come_in_of.Goals as goal

pub post_step-requires : goal.post_step-requires
post_step-requires g c =
    posts-on g.L.RunName.start c.there.inside.run c.come_in.new.self _ (comes-on c.args.seat.now.worker g.L.RunName.lines c.args.place c.there.inside.run c.come_in.new.self c.in_ok-did-in-Some.did c.in_ok-did-in-Some.ensures.answer) c.there.invariant.0

pub returns-in_ok-did-in-Some-clause-answer : goal.returns-in_ok-did-in-Some-clause-answer
returns-in_ok-did-in-Some-clause-answer g c =
    rw (c.in-Some.is, ← c.there.view_is) (did-posted g.L.RunName.start (λ old new. ComesIn c.args.seat.now.worker g.L.RunName.lines c.args.place old new c.in_ok-did-in-Some.did) c.there.inside.run c.come_in.new.self c.post_step.new.run
    (g.P.Poster.posts c.there.inside.pen) (g.P.Poster.posts c.post_step.new.pen) c.there.invariant c.in_ok-did-in-Some.ensures.answer c.post_step.ensures.stays c.post_step.ensures.pen c.post_step.ensures.still)
