use Rattle.worker_post.proofs.Noting.{shut-noted, kept-noted, memory-noted, stop-noted}
use Rattle.worker_post.proofs.post.Post.session.Goals as goal

pub returns-in-Shut-clause-noted : goal.returns-in-Shut-clause-noted
returns-in-Shut-clause-noted g c = shut-noted g.D.End.Link.faults c.in-Shut.e (g.D.End.Link.named c.args.end) (g.D.End.Link.faults c.args.end) (g.D.Desk.notices c.args.seat.now) (g.D.Desk.notices c.serve.new.seat) (g.D.Desk.notices c.wait_out.new.seat) c.in-Shut.ensures.noted c.wait_out.ensures.notices
