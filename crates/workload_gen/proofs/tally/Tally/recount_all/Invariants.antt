use Rattle.std.proofs.Common.{◌≡◌, ◌<◌, ℕ, length, slice_get, Some}
use Rattle.workload_gen.specs.Counts.{IsCount}
use Rattle.workload_gen.specs.Draws.{tried_at}
use Rattle.workload_gen.proofs.tally.Tally.recount_all.Given as goal

abbrev pub invariant-loop-place : goal.invariant-loop-place
invariant-loop-place l = record {
  all : length l.self ≡ length l.fn.self;
  each : (k n : ℕ) → k < l.place → slice_get l.self k ≡ Some n → IsCount l.world (tried_at l.world k) n;
}
