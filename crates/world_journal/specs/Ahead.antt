-- What a worker may do ahead of its calls.
use Rattle.std.specs.Prelude.{◌≡◌, ℕ, Option, Some, None}
use Rattle.update_coordinator.specs.declared.cause.Side.{Side}
use Rattle.worker_desk.specs.declared.desk.WorkerTask.{WorkerTask}
use Rattle.worker_desk.specs.declared.desk.WorkerTask.TheVariants.{Out, Expect, Nothing, NewEnd, Stop}
use Rattle.world_journal.specs.Runs.{Stops, end_at}
use Rattle.world_journal.specs.Watching.{WatchedValue}

-- the worker is to go on over its end
abbrev pub IsWork : {E : Type 0} → WorkerTask E → Type 0
IsWork (Out m made) = Unit {0}
IsWork (Expect made) = Unit {0}
IsWork (Nothing made) = Unit {0}
IsWork (NewEnd end) = ⊥
IsWork Stop = ⊥

-- there is a run, which goes on, and no new end is laid out at this side of switch s
abbrev pub MayWork : {E : Type 0} → Side → ℕ → Option (WatchedValue E) → Type 0
MayWork side s None = ⊥
MayWork side s (Some w) = (¬ Stops w.run s) × (end_at w.run side s ≡ None)
