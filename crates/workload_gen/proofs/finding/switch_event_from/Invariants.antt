use Rattle.std.proofs.Common.{◌≤◌, ◌-◌, length}
use Rattle.workload_gen.specs.Draws.{tried_from}
use Rattle.workload_gen.proofs.Found.{FindsAlong}
use Rattle.workload_gen.proofs.finding.switch_event_from.Given as goal

abbrev pub invariant-loop-place : goal.invariant-loop-place
invariant-loop-place l = record {
  small : l.number ≤ l.fn.number;
  along : FindsAlong l.world (tried_from l.world l.place (length l.counts - l.place)) l.number (tried_from l.world l.start (length l.counts - l.start)) l.fn.number;
}
