use Rattle.std.proofs.Common.{◌≡◌}
use Rattle.worker_post.proofs.post.Post.wait_out.Given as goal

abbrev pub invariant-loop : goal.invariant-loop
invariant-loop g l = record {
  seated : g.D.Desk.seated l.seat;
  place : g.D.Desk.place l.seat ≡ g.D.Desk.place l.initial.seat;
  given : g.D.Desk.given l.seat ≡ g.D.Desk.given l.initial.seat;
  kept : g.D.Desk.kept l.seat ≡ g.D.Desk.kept l.initial.seat;
  told : g.D.Desk.told l.seat ≡ g.D.Desk.told l.initial.seat;
  notices : g.D.Desk.notices l.seat ≡ g.D.Desk.notices l.initial.seat;
}
