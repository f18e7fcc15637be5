use Rattle.std.proofs.Common.{◌≤◌}
use Rattle.workload_gen.specs.Counts.{IsCount}
use Rattle.world_core.specs.Settling.{hops_from}
use Rattle.workload_gen.proofs.counting.count_hops.Given as goal

abbrev pub invariant-loop-place : goal.invariant-loop-place
invariant-loop-place l = record {
  few : l.count ≤ l.place;
  counted : IsCount l.world (hops_from 0 l.place) l.count;
}
