-- What halts the coordinator comes last.
use Rattle.std.specs.Prelude.{◌≡◌, ◌≢◌, ℕ, List, [], ◌∷◌, ◌++◌, None}
use Rattle.nk_values.specs.Members.{IsIn}
use Rattle.update_coordinator.specs.Controls.{Control}
use Rattle.drive_journal.specs.declared.steering.Steering.{Steering}
use Rattle.drive_journal.specs.declared.steering.Steering.TheVariants.{Lost}
use Rattle.drive_journal.specs.Losses.{HaltsAtLoss}
use Rattle.drive_journal.specs.Steering.{Drives}

-- this event is the last one, and the coordinator has halted after it
pub record IsLastBefore (es : List Steering) (e : Steering) (d : Control) : Type 0 where
  pub before : List Steering
  pub last : es ≡ before ++ e ∷ []
  pub halted : d.halt ≢ None

-- If the first loss halts the coordinator, a session is lost by the last event alone.
abbrev pub LostIsLast : Type 0
LostIsLast = (c : Control) (es : List Steering) (d : Control) (s : ℕ) → HaltsAtLoss c → Drives c es d →
    IsIn es (Lost s) → IsLastBefore es (Lost s) d
