-- Where a run can be taken out.
use Rattle.std.specs.Prelude.{◌≡◌, ℕ, List, Option, Some, None}
use Rattle.world_journal.specs.Runs.{HasEnded}
use Rattle.world_journal.specs.Watching.{WatchedValue}
use Rattle.world_journal.specs.declared.line.Line.{Line}

-- all seats were laid back, and it is closed or over
abbrev pub CanFinish : {E : Type 0} → ℕ → List Line → Option (WatchedValue E) → Type 0
CanFinish all lines None = ⊥
CanFinish all lines (Some watched) = (watched.run.back ≡ all) × HasEnded lines watched.run
