-- What a desk asks of the run that lies under its lock.
use Rattle.std.specs.Prelude.{◌≡◌, ℕ, ◌+◌, ◌<◌, true, Option, Some, None}
use Rattle.world_journal.specs.Runs.{RunValue}
use Rattle.world_journal.specs.Watching.{WatchedValue, DidAndPosted}

-- There is a run, the call did this to it, and its step was posted; or it was taken out and stays so, and the call says
-- this.
abbrev pub OnRun : {E : Type 0} → (RunValue E → RunValue E → Type 0) → Type 0 → Option (WatchedValue E) →
    Option (WatchedValue E) → Type 0
OnRun Does Without (Some old) (Some new) = DidAndPosted Does old new
OnRun Does Without None None = Without
OnRun Does Without _ _ = ⊥

-- one seat more was laid back, if one was out
abbrev pub LaysBack : {E : Type 0} → ℕ → RunValue E → RunValue E → Type 0
LaysBack all old new = (old.back < all → new.back ≡ old.back + 1) × (new ≡ record old { back = new.back })

-- it was closed
abbrev pub Closes : {E : Type 0} → RunValue E → RunValue E → Type 0
Closes old new = new ≡ record old { closed = true }
