use Rattle.worker_post.proofs.post.Post.send_cycle.Goals as goal

pub returns-in-Failed-clause-noted : goal.returns-in-Failed-clause-noted
returns-in-Failed-clause-noted g c = c.lose.ensures.noted (g.D.End.Link.named c.args.end) (g.D.End.Link.faults c.args.end) c.send_message.ensures.named c.in-Failed.ensures.cause.1
