use Rattle.std.proofs.Common.{◌≡◌}
use Rattle.std.specs.Prelude.{List, IfSome, []}
use Rattle.worker_post.specs.Sessions.{FollowsSession, Session}
use Rattle.worker_post.proofs.post.Post.work.Given as goal

abbrev pub invariant-loop : goal.invariant-loop
invariant-loop g l = record {
  seated : g.D.Desk.seated l.seat;
  place : g.D.Desk.place l.seat ≡ g.D.Desk.place l.initial.seat;
  named : g.D.Desk.place_of (g.D.End.Link.named l.end) ≡ g.D.Desk.place l.initial.seat;
  fresh : IfSome (g.D.End.Link.received l.end) (λ xs. xs ≡ []);
  follows : (sessions : List (Session _)) × FollowsSession g.D.End.Link.sent g.D.End.Link.received g.D.End.Link.named g.D.End.Link.faults l.initial.end (g.D.Desk.given l.initial.seat) (g.D.Desk.told l.initial.seat) (g.D.Desk.notices l.initial.seat) sessions l.end (g.D.Desk.given l.seat) (g.D.Desk.told l.seat) (g.D.Desk.notices l.seat);
}
