use Rattle.std.proofs.Common.{ℕ, ◌<◌}
use Rattle.world_journal.specs.Moves.{IsMissing}
use Rattle.world_journal.proofs.run.Run.missing.Given as goal

abbrev pub invariant-loop-place : goal.invariant-loop-place
invariant-loop-place g l = (k : ℕ) → k < l.place → ¬ IsMissing k l.self
