use Rattle.world_journal.specs.Calls.{RunTells, place_of, side_of}
use Rattle.world_journal.specs.Journals.{switches}
use Rattle.world_journal.proofs.Onward.{tells-on}
use Rattle.world_journal.proofs.Posting.{did-posted, posts-on}
use Rattle.world_journal.proofs.asks.told_of.Goals as goal

pub post_step-requires : goal.post_step-requires
post_step-requires g c =
    let n = switches g.L.RunName.start in
    let w = c.args.seat.now.worker in
    posts-on g.L.RunName.start c.there.inside.run c.tell-told.new.self _ (tells-on n (g.E.Link.named c.args.end) w (side_of n w) (place_of n w) c.args.bytes.now c.args.k c.args.end c.there.inside.run c.tell-told.new.self c.tell-told.result c.tell-told.ensures.answer) c.there.invariant.0

pub returns-in-Some-clause-answer : goal.returns-in-Some-clause-answer
returns-in-Some-clause-answer g c =
    let n = switches g.L.RunName.start in
    let w = c.args.seat.now.worker in
    rw (c.in-Some.is, ← c.there.view_is) (did-posted g.L.RunName.start (λ old new. RunTells n (g.E.Link.named c.args.end) w (side_of n w) (place_of n w) c.args.bytes.now c.args.k c.args.end old new c.tell-told.result) c.there.inside.run c.tell-told.new.self c.post_step.new.run
    (g.P.Poster.posts c.there.inside.pen) (g.P.Poster.posts c.post_step.new.pen) c.there.invariant c.tell-told.ensures.answer c.post_step.ensures.stays c.post_step.ensures.pen c.post_step.ensures.still)
