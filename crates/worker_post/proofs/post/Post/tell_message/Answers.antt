use Rattle.std.proofs.Common.{◌∙◌, inl, take, drop, ap, refl}
use Rattle.worker_post.proofs.Noting.{kept-faults}
use Rattle.worker_post.proofs.Streaming.{tells-message, following-next, continues-next, next-tells}
use Rattle.worker_post.proofs.post.Post.tell_message.Goals as goal

pub tell-requires-clause-stream : goal.tell-requires-clause-stream
tell-requires-clause-stream g c =
    let p = c.requires.front in
    tells-message (g.D.End.Link.received c.args.end) c.args.inbox.now.framer c.args.inbox.now.told c.args.len p.0 c.split_at.result.0.now c.requires.following p.1 (c.split_at.ensures.front ∙ ap (take c.args.len) c.held.ensures)

pub returns-in-Back-clause-following : goal.returns-in-Back-clause-following
returns-in-Back-clause-following g c =
    let p = c.requires.front in
    following-next (g.D.End.Link.received c.args.end) c.args.inbox.now.framer c.skip.new.self c.args.inbox.now.told c.args.len p.0 c.requires.following p.1 c.skip.ensures

pub returns-in-Back-clause-told : goal.returns-in-Back-clause-told
returns-in-Back-clause-told g c = λ t0 r0 h.
    let p = c.requires.front in
    continues-next t0 (g.D.Desk.told c.args.seat.now) (g.D.Desk.told c.tell.new.seat) r0 (g.D.End.Link.received c.args.end) c.args.inbox.now.framer c.skip.new.self c.split_at.result.0.now c.args.inbox.now.told c.args.len p.0 h p.1 (c.split_at.ensures.front ∙ ap (take c.args.len) c.held.ensures) c.skip.ensures c.tell.ensures.told

pub returns-in-Kept-clause-told : goal.returns-in-Kept-clause-told
returns-in-Kept-clause-told g c = λ t0 r0 h.
    let p = c.requires.front in
    next-tells t0 (g.D.Desk.told c.args.seat.now) (g.D.Desk.told c.tell.new.seat) r0 (g.D.End.Link.received c.args.end) c.args.inbox.now.framer (drop c.args.len c.args.inbox.now.framer) c.split_at.result.0.now c.args.inbox.now.told c.args.len p.0 h p.1 (c.split_at.ensures.front ∙ ap (take c.args.len) c.held.ensures) refl c.tell.ensures.told

pub returns-in-Memory-clause-told : goal.returns-in-Memory-clause-told
returns-in-Memory-clause-told g c = λ t0 r0 h.
    let p = c.requires.front in
    next-tells t0 (g.D.Desk.told c.args.seat.now) (g.D.Desk.told c.close.new.seat) r0 (g.D.End.Link.received c.args.end) c.args.inbox.now.framer (drop c.args.len c.args.inbox.now.framer) c.split_at.result.0.now c.args.inbox.now.told c.args.len p.0 h p.1 (c.split_at.ensures.front ∙ ap (take c.args.len) c.held.ensures) refl (c.close.ensures.told ∙ c.tell.ensures.told)

pub returns-in-Kept-clause-noted : goal.returns-in-Kept-clause-noted
returns-in-Kept-clause-noted g c = (g.D.End.Link.faults c.args.end, inl (refl, c.tell.ensures.notices), kept-faults g.D.End.Link.faults c.args.end (g.D.Desk.kept c.tell.new.seat) c.in-Kept.ensures.kept)
