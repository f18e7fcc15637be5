use Rattle.std.proofs.Common.{◌≡◌, ◌<◌, ◌*◌, ℕ, Some, drop, length, slice_get, take}
use Rattle.workload_gen.specs.Counts.{sum_to_limit}
use Rattle.workload_gen.proofs.sums.sum_blocks.Given as goal

abbrev pub invariant-loop-block : goal.invariant-loop-block
invariant-loop-block l = record {
  all : length l.blocks ≡ length l.fn.blocks;
  each : (k n : ℕ) → k < l.block → slice_get l.blocks k ≡ Some n → n ≡ sum_to_limit (take 8 (drop (8 * k) l.numbers));
}
