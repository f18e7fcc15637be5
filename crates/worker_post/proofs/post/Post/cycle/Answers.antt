use Rattle.std.proofs.Common.{List, ℕ, Option, sym, ap, ◌∙◌, subst}
use Rattle.worker_desk.specs.Answers.{grown, message_of}
use Rattle.worker_desk.specs.declared.desk.WorkerTask.{WorkerTask}
use Rattle.worker_post.specs.Working.{Continues}
use Rattle.worker_post.proofs.Noting.{cycle-notes}
use Rattle.worker_post.proofs.Turning.{sent-works, told-works, grown-none}
use Rattle.worker_post.proofs.post.Post.cycle.Goals as goal

pub returns-in-Ok-Out-clause-worked : goal.returns-in-Ok-Out-clause-worked
returns-in-Ok-Out-clause-worked g c = λ g0 t0 s0 r0 h.
    sent-works g.D.End.Link.sent g.D.End.Link.received g.D.End.Link.named c.args.end (g.D.Desk.kept c.send_cycle.new.seat) g0 t0 s0 r0 (g.D.Desk.given c.args.seat.now) (g.D.Desk.given c.send_cycle.new.seat) (g.D.Desk.told c.args.seat.now) (g.D.Desk.told c.send_cycle.new.seat)
    c.args.inbox.now.framer c.args.inbox.now.told c.in-Ok-Out.message c.send_cycle.result h
    (c.send_cycle.ensures.given.0 ∙ c.in-Ok-Out.ensures.given ∙ ap (λ (x : WorkerTask _). grown (g.D.Desk.given c.args.seat.now) (message_of x)) c.in-Ok-Out.field-0-is)
    (c.send_cycle.ensures.given.1 ∙ c.in-Ok-Out.ensures.told) c.send_cycle.ensures.received c.send_cycle.ensures.sent

pub returns-in-Ok-Expect-clause-worked : goal.returns-in-Ok-Expect-clause-worked
returns-in-Ok-Expect-clause-worked g c = λ g0 t0 s0 r0 h.
    told-works g.D.End.Link.sent g.D.End.Link.received g.D.End.Link.named c.args.end (g.D.Desk.kept c.receive_cycle.new.seat) g0 t0 s0 r0 (g.D.Desk.given c.args.seat.now) (g.D.Desk.given c.receive_cycle.new.seat) (g.D.Desk.told c.args.seat.now) (g.D.Desk.told c.receive_cycle.new.seat)
    c.args.inbox.now.framer c.receive_cycle.new.inbox.framer c.args.inbox.now.told c.receive_cycle.new.inbox.told c.receive_cycle.result h
    (c.receive_cycle.ensures.given ∙ c.in-Ok-Expect.ensures.given ∙ ap (λ (x : WorkerTask _). grown (g.D.Desk.given c.args.seat.now) (message_of x)) c.in-Ok-Expect.field-0-is ∙ grown-none (g.D.Desk.given c.args.seat.now)) c.receive_cycle.ensures.sent
    (c.receive_cycle.ensures.told t0 r0 (subst (λ (t : Option (List (List ℕ))). Continues t0 t r0 (g.D.End.Link.received c.args.end) c.args.inbox.now.framer c.args.inbox.now.told) (sym c.give.ensures.told) h.stream))

pub returns-in-Ok-Out-clause-noted : goal.returns-in-Ok-Out-clause-noted
returns-in-Ok-Out-clause-noted g c =
    cycle-notes g.D.End.Link.faults (g.D.Desk.kept c.send_cycle.new.seat) (g.D.End.Link.named c.args.end) (g.D.End.Link.faults c.args.end) (g.D.Desk.notices c.args.seat.now) (g.D.Desk.notices c.give.new.seat) (g.D.Desk.notices c.send_cycle.new.seat) c.send_cycle.result c.in-Ok-Out.ensures.notices c.send_cycle.ensures.noted

pub returns-in-Ok-Expect-clause-noted : goal.returns-in-Ok-Expect-clause-noted
returns-in-Ok-Expect-clause-noted g c =
    cycle-notes g.D.End.Link.faults (g.D.Desk.kept c.receive_cycle.new.seat) (g.D.End.Link.named c.args.end) (g.D.End.Link.faults c.args.end) (g.D.Desk.notices c.args.seat.now) (g.D.Desk.notices c.give.new.seat) (g.D.Desk.notices c.receive_cycle.new.seat) c.receive_cycle.result c.in-Ok-Expect.ensures.notices c.receive_cycle.ensures.noted
