use Rattle.std.proofs.Common.{◌≡◌, ◌≤◌, vec_len}
use Rattle.program_answer.specs.Called.{change}
use Rattle.thread_commands.proofs.Gathering.{AreCounted, AreTold}
use Rattle.thread_commands.proofs.Losing.{AreCountedBy}
use Rattle.thread_commands.proofs.kept.take_back.Given as goal

abbrev pub invariant-loop-end : goal.invariant-loop-end
invariant-loop-end g l = record {
  later : g.N.Net.broken l.initial.net ≤ g.N.Net.broken l.net;
  counted : AreCounted g.N.End.Link.faults l.initial.ends.items l.ends.items (g.N.Net.broken l.initial.net) (g.N.Net.broken l.net);
  many : AreCountedBy g.N.End.Link.faults l.initial.ends.items l.ends.items (g.N.Net.broken l.initial.net) (g.N.Net.broken l.net);
  told : AreTold g.N.End.Link.received l.initial.ends.items l.ends.items (change g.N.Net.gathered l.initial.net l.net);
  faults : g.N.Net.faults l.net ≡ g.N.Net.faults l.initial.net;
}

abbrev pub decreases-loop-end : goal.decreases-loop-end
decreases-loop-end g l = vec_len l.ends
