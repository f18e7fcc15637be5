use Rattle.world_journal.specs.Journals.{switches}
use Rattle.world_journal.specs.Moves.{Rejoins}
use Rattle.world_journal.proofs.Onward.{rejoins-on}
use Rattle.world_journal.proofs.Posting.{did-posted, posts-on}
use Rattle.world_journal.proofs.asked_moves.rejoin_of.Goals as goal

pub post_step-requires : goal.post_step-requires
post_step-requires g c =
    let n = switches g.L.RunName.start in
    posts-on g.L.RunName.start c.there.inside.run c.rejoin.new.self _ (rejoins-on n c.args.seat.now.worker c.args.absence c.args.pair c.there.inside.run c.rejoin.new.self c.in_ok-did-in-Some.did c.in_ok-did-in-Some.ensures.answer) c.there.invariant.0

pub returns-in_ok-did-in-Some-clause-answer : goal.returns-in_ok-did-in-Some-clause-answer
returns-in_ok-did-in-Some-clause-answer g c =
    let n = switches g.L.RunName.start in
    rw (c.in-Some.is, ← c.there.view_is) (did-posted g.L.RunName.start (λ old new. Rejoins n c.args.seat.now.worker c.args.absence c.args.pair old new c.in_ok-did-in-Some.did) c.there.inside.run c.rejoin.new.self c.post_step.new.run
    (g.P.Poster.posts c.there.inside.pen) (g.P.Poster.posts c.post_step.new.pen) c.there.invariant c.in_ok-did-in-Some.ensures.answer c.post_step.ensures.stays c.post_step.ensures.pen c.post_step.ensures.still)
