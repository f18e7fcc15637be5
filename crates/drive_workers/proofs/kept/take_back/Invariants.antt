use Rattle.std.proofs.Common.{◌≡◌, ◌≤◌, vec_len}
use Rattle.drive_workers.proofs.Gathering.{AreCounted}
use Rattle.drive_workers.proofs.kept.take_back.Given as goal

abbrev pub invariant-loop-end : goal.invariant-loop-end
invariant-loop-end g l = record {
  later : g.N.Net.broken l.initial.net ≤ g.N.Net.broken l.net;
  counted : AreCounted g.N.End.Link.faults l.initial.ends.items l.ends.items (g.N.Net.broken l.initial.net) (g.N.Net.broken l.net);
  faults : g.N.Net.faults l.net ≡ g.N.Net.faults l.initial.net;
}

abbrev pub decreases-loop-end : goal.decreases-loop-end
decreases-loop-end g l = vec_len l.ends
