use Rattle.worker_post.proofs.Noting.{loss-noted, kept-faults}
use Rattle.worker_post.proofs.post.Post.lose.Goals as goal

pub returns-in-Kept-clause-noted : goal.returns-in-Kept-clause-noted
returns-in-Kept-clause-noted g c = λ name before is rose.
    (g.D.End.Link.faults c.args.end, loss-noted (g.D.End.Link.named c.args.end) name before (g.D.End.Link.faults c.args.end) (g.D.Desk.notices c.args.seat.now) (g.D.Desk.notices c.lost.new.seat) is rose c.lost.ensures.notices, kept-faults g.D.End.Link.faults c.args.end (g.D.Desk.kept c.lost.new.seat) c.in-Kept.ensures.kept)
