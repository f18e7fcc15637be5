use Rattle.std.proofs.Common.{◌∙◌, inl, refl}
use Rattle.worker_post.proofs.Noting.{kept-faults}
use Rattle.worker_post.proofs.Streaming.{tells-fault, fault-tells}
use Rattle.worker_post.proofs.post.Post.tell_fault.Goals as goal

pub tell-requires-clause-stream : goal.tell-requires-clause-stream
tell-requires-clause-stream g c =
    let p = c.requires.fault in
    tells-fault (g.D.End.Link.received c.args.end) c.args.inbox.now.framer c.args.inbox.now.told p.0 c.held.result.now c.requires.following p.1 c.held.ensures

pub returns-in-Back-clause-told : goal.returns-in-Back-clause-told
returns-in-Back-clause-told g c = λ t0 r0 h.
    let p = c.requires.fault in
    fault-tells t0 (g.D.Desk.told c.args.seat.now) (g.D.Desk.told c.tell.new.seat) r0 (g.D.End.Link.received c.args.end) c.args.inbox.now.framer c.held.result.now c.args.inbox.now.told p.0 h p.1 c.held.ensures c.tell.ensures.told

pub returns-in-Kept-clause-told : goal.returns-in-Kept-clause-told
returns-in-Kept-clause-told g c = λ t0 r0 h.
    let p = c.requires.fault in
    fault-tells t0 (g.D.Desk.told c.args.seat.now) (g.D.Desk.told c.tell.new.seat) r0 (g.D.End.Link.received c.args.end) c.args.inbox.now.framer c.held.result.now c.args.inbox.now.told p.0 h p.1 c.held.ensures c.tell.ensures.told

pub returns-in-Memory-clause-told : goal.returns-in-Memory-clause-told
returns-in-Memory-clause-told g c = λ t0 r0 h.
    let p = c.requires.fault in
    fault-tells t0 (g.D.Desk.told c.args.seat.now) (g.D.Desk.told c.close.new.seat) r0 (g.D.End.Link.received c.args.end) c.args.inbox.now.framer c.held.result.now c.args.inbox.now.told p.0 h p.1 c.held.ensures (c.close.ensures.told ∙ c.tell.ensures.told)

pub returns-in-Kept-clause-noted : goal.returns-in-Kept-clause-noted
returns-in-Kept-clause-noted g c = (g.D.End.Link.faults c.args.end, inl (refl, c.tell.ensures.notices), kept-faults g.D.End.Link.faults c.args.end (g.D.Desk.kept c.tell.new.seat) c.in-Kept.ensures.kept)
