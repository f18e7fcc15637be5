use Rattle.workload_gen.specs.Counts.{AreCounts, AreOthers}
use Rattle.workload_gen.proofs.Turning.{IsSoFar}
use Rattle.workload_gen.proofs.drawing.draw.Given as goal

abbrev pub invariant-loop : goal.invariant-loop
invariant-loop l = record {
  so_far : IsSoFar l.fn.packets l.fn.rng l.fn.world l.events.items l.left l.rng l.world;
  counts : AreCounts l.world l.tally;
  others : AreOthers l.world l.left l.others.hops l.others.last;
}
