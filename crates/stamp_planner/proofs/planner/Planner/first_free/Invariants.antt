use Rattle.std.proofs.Common.{ℕ, ◌<◌}
use Rattle.stamp_planner.specs.Stamps.{IsLive, rotated}
use Rattle.stamp_planner.proofs.planner.Planner.first_free.Given as goal

abbrev pub invariant-loop-steps : goal.invariant-loop-steps
invariant-loop-steps l = (k : ℕ) → k < l.steps → IsLive l.self (rotated l.self k)
