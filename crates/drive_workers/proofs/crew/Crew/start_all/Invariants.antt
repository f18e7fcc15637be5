use Rattle.std.proofs.Common.{◌≤◌, length, vec_len}
use Rattle.drive_workers.specs.Ends.{AreEnds}
use Rattle.drive_workers.proofs.crew.Crew.start_all.Given as goal

abbrev pub invariant-loop-end : goal.invariant-loop-end
invariant-loop-end g l = record {
  ends : AreEnds g.E.Link.named g.E.Link.received l.ends.items;
  within : vec_len l.ends ≤ length g.L.DriveName.start.peers;
  later : g.T.Spawner.faults l.initial.threads ≤ g.T.Spawner.faults l.threads;
}

abbrev pub decreases-loop-end : goal.decreases-loop-end
decreases-loop-end g l = vec_len l.ends
