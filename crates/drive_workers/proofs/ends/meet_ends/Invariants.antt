use Rattle.std.proofs.Common.{◌≡◌, vec_len}
use Rattle.drive_workers.specs.Ends.{AreEnds}
use Rattle.drive_workers.proofs.ends.meet_ends.Given as goal

abbrev pub invariant-loop-place : goal.invariant-loop-place
invariant-loop-place g l = record {
  ends : AreEnds g.N.End.Link.named g.N.End.Link.received l.ends.items;
  count : vec_len l.ends ≡ l.place;
  faults : g.N.Net.faults l.net ≡ g.N.Net.faults l.initial.net;
  broken : g.N.Net.broken l.net ≡ g.N.Net.broken l.initial.net;
}
