use Rattle.std.proofs.Common.{◌≤◌, ◌-◌, length}
use Rattle.world_core.specs.Settling.{hops_from}
use Rattle.workload_gen.proofs.Found.{FindsAlong}
use Rattle.workload_gen.proofs.finding.hop_by.Given as goal

abbrev pub invariant-loop-place : goal.invariant-loop-place
invariant-loop-place l = record {
  small : l.number ≤ l.fn.number;
  along : FindsAlong l.world (hops_from l.place (length l.world.flights - l.place)) l.number (hops_from 0 (length l.world.flights)) l.fn.number;
}
