-- Which stamps are in use.
use Rattle.std.specs.Prelude.{◌≡◌, ◌↔◌, ◌<◌, ◌≤◌, ◌+◌, ◌-◌, ℕ, List, slice_get, Some, None}
use Rattle.policy_rows.specs.declared.version.Version.{Version}
use Rattle.policy_rows.specs.Numbers.{stamp_at}
use Rattle.topology_model.specs.Layouts.{Layout}
use Rattle.update_coordinator.specs.Controls.{Control}
use Rattle.update_coordinator.specs.Calls.{begin_refusal}
use Rattle.update_coordinator.specs.declared.refusal.Refusal.TheVariants.{NoStamp}
use Rattle.update_laws.specs.Updates.{Setting, Idle, last_policy}
use Rattle.update_laws.specs.Settings.{setting_of}
use Rattle.update_laws.specs.Fleets.{Fleet}

-- the version is current, drains or comes in
abbrev pub IsInUse : Control → ℕ → Type 0
IsInUse d v = (d.swept < v) × (v ≤ last_policy d.phase)

-- the stamps of versions go round from `low` to `high`
abbrev pub GoRound : ℕ → ℕ → List Version → Type 0
GoRound low high vs = (k : ℕ) (v : Version) → slice_get vs k ≡ Some v → v.rows.stamp ≡ stamp_at low high k

-- each stamp from `low` to `high` is that of a version that is current or drains
abbrev pub AreAllUsed : Setting → Control → ℕ → ℕ → Type 0
AreAllUsed c d low high = (stamp : ℕ) → low ≤ stamp → stamp ≤ high → (v : ℕ) × IsInUse d v × (c.stamp v ≡ stamp)

-- an update would begin, but for want of a stamp
pub record LacksStamp (c : Setting) (low high : ℕ) (d : Control) : Type 0 where
  pub running : d.halt ≡ None
  pub version : ℕ
  pub idle : d.phase ≡ Idle version
  pub more : version < c.last
  pub used : AreAllUsed c d low high

-- No two versions that are in use have one stamp.
abbrev pub NoStampTwice : Setting → Fleet → Type 0
NoStampTwice c f = (u v : ℕ) → IsInUse f.control u → IsInUse f.control v → c.stamp u ≡ c.stamp v → u ≡ v

-- An update is refused for want of a stamp exactly if it could begin otherwise and each stamp is in use.
abbrev pub RefusesUsed : Layout → List Version → ℕ → ℕ → ℕ → ℕ → Fleet → Type 0
RefusesUsed t vs limit capacity low high f =
    (begin_refusal f.control ≡ Some NoStamp) ↔
    LacksStamp (setting_of t vs limit capacity (Some (high - low + 1))) low high f.control
