use Rattle.world_journal.specs.Calls.{RunGives, RunsOut, place_of, side_of}
use Rattle.world_journal.specs.Journals.{switches}
use Rattle.world_journal.proofs.Onward.{given-on}
use Rattle.world_journal.proofs.Posting.{err-posted, ok-posted, posts-on}
use Rattle.world_journal.proofs.asks.given_of.Goals as goal

pub post_step-requires : goal.post_step-requires
post_step-requires g c =
    let n = switches g.L.RunName.start in
    let w = c.args.seat.now.worker in
    posts-on g.L.RunName.start c.there.inside.run c.give-given.new.self _ (given-on w (side_of n w) (place_of n w) c.there.inside.run c.give-given.new.self c.give-given.result c.give-given.ensures.answer c.give-given.ensures.memory) c.there.invariant.0

pub returns-in-Some-clause-answer : goal.returns-in-Some-clause-answer
returns-in-Some-clause-answer g c =
    let n = switches g.L.RunName.start in
    let w = c.args.seat.now.worker in
    rw (c.in-Some.is, ← c.there.view_is) (ok-posted g.L.RunName.start (λ given old new. RunGives w (side_of n w) (place_of n w) old new given) c.give-given.result c.there.inside.run c.give-given.new.self c.post_step.new.run
    (g.P.Poster.posts c.there.inside.pen) (g.P.Poster.posts c.post_step.new.pen) c.there.invariant c.give-given.ensures.answer c.post_step.ensures.stays c.post_step.ensures.pen c.post_step.ensures.still)

pub returns-in-Some-clause-memory : goal.returns-in-Some-clause-memory
returns-in-Some-clause-memory g c =
    let n = switches g.L.RunName.start in
    let w = c.args.seat.now.worker in
    rw (c.in-Some.is, ← c.there.view_is) (err-posted g.L.RunName.start (RunsOut w (side_of n w) (place_of n w)) c.give-given.result c.there.inside.run c.give-given.new.self c.post_step.new.run
    (g.P.Poster.posts c.there.inside.pen) (g.P.Poster.posts c.post_step.new.pen) c.there.invariant c.give-given.ensures.memory c.post_step.ensures.stays c.post_step.ensures.pen c.post_step.ensures.still)
