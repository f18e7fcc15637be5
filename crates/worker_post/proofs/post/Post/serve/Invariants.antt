use Rattle.std.proofs.Common.{◌≡◌}
use Rattle.worker_post.specs.Working.{IsFollowing}
use Rattle.worker_post.specs.Works.{IsWorkAt}
use Rattle.worker_post.proofs.post.Post.serve.Given as goal

abbrev pub invariant-loop : goal.invariant-loop
invariant-loop g l = record {
  seated : g.D.Desk.seated l.seat;
  place : g.D.Desk.place l.seat ≡ g.D.Desk.place l.initial.seat;
  named : g.D.End.Link.named l.end ≡ g.D.End.Link.named l.initial.end;
  faults : g.D.End.Link.faults l.end ≡ g.D.End.Link.faults l.initial.end;
  notices : g.D.Desk.notices l.seat ≡ g.D.Desk.notices l.initial.seat;
  following : IsFollowing (g.D.End.Link.received l.end) l.inbox.framer l.inbox.told;
  at : IsWorkAt (g.D.Desk.given l.initial.seat) (g.D.Desk.told l.initial.seat) (g.D.End.Link.sent l.initial.end) (g.D.End.Link.received l.initial.end) (g.D.Desk.given l.seat) (g.D.Desk.told l.seat) (g.D.End.Link.sent l.end) (g.D.End.Link.received l.end) l.inbox.framer l.inbox.told;
}
