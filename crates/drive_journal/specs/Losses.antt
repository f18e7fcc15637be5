-- What a drive keeps of its sessions: none is lost while it goes on.
use Rattle.std.specs.Prelude.{◌≡◌, ℕ, List, None}
use Rattle.nk_values.specs.declared.rows.Rows.{Rows}
use Rattle.update_coordinator.specs.Controls.{Control}
use Rattle.update_coordinator.specs.Hearing.{IsAway}
use Rattle.update_coordinator.specs.Starts.{initial_control}

-- The session with each switch is there, and the first loss halts the coordinator.
pub record HaltsAtLoss (c : Control) : Type 0 where
  pub none_left : c.rejoins ≡ 0
  pub there : (s : ℕ) → ¬ IsAway s c

-- So it is at a start that allows no loss.
abbrev pub StartsHaltAtLoss : Type 0
StartsHaltAtLoss = (versions : List Rows) (switches : List ℕ) → HaltsAtLoss (initial_control versions switches 0 None)
