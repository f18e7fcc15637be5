-- What a drive has beside its journal, and when its workers are to stop.
use Rattle.std.specs.Prelude.{◌≡◌, ◌≢◌, ◌⊎◌, ℕ, Bool, true, List, length, Option, Some, None, slice_get, slice_set}
use Rattle.openflow_wire.specs.declared.message.Message.{Message}
use Rattle.update_coordinator.specs.declared.phase.Phase.TheVariants as phase
use Rattle.update_coordinator.specs.Controls.{Control}
use Rattle.update_coordinator.specs.Sending.{MaySend}
use Rattle.drive_journal.specs.Journals.{SteeredValue}

-- The journal with its coordinator, whether the drive was closed, and of each switch the answer to its last message
-- that is still to be sent.
pub record DriveValue (E Q : Type 0) : Type 0 where
  pub held : SteeredValue E Q
  pub closed : Bool
  pub echoes : List (Option Message)

abbrev pub or_none : {X : Type 0} → Option (Option X) → Option X
or_none None = None
or_none (Some x) = x

-- the answer that is to be sent to switch s
abbrev pub echo_at : {E Q : Type 0} → DriveValue E Q → ℕ → Option Message
echo_at r s = or_none (slice_get r.echoes s)

-- the same drive, with this to be sent to switch s
abbrev pub answering : {E Q : Type 0} → DriveValue E Q → ℕ → Option Message → DriveValue E Q
answering r s m = record r { echoes = slice_set r.echoes s m }

-- the last policy handles all packets
abbrev pub IsLast : Control → Type 0
IsLast c = c.phase ≡ phase.Idle (length c.versions)

-- A drive is over if the last policy handles all packets, or the coordinator has halted.
abbrev pub IsOver : Control → Type 0
IsOver c = (c.halt ≢ None) ⊎ IsLast c

-- nothing is left to be sent to switch s
abbrev pub IsSentAll : {E Q : Type 0} → DriveValue E Q → ℕ → Type 0
IsSentAll r s = (echo_at r s ≡ None) × ¬ MaySend s r.held.control

-- The worker of switch s is to stop: the drive is closed or has halted, or the last policy handles all packets and
-- nothing is left to be sent to it.
abbrev pub Stops : {E Q : Type 0} → DriveValue E Q → ℕ → Type 0
Stops r s = (r.closed ≡ true) ⊎ ((r.held.control.halt ≢ None) ⊎ (IsLast r.held.control × IsSentAll r s))

-- all but the journal with its coordinator and what was kept is the same
pub record IsBeside {E Q : Type 0} (old new : DriveValue E Q) : Type 0 where
  pub closed : new.closed ≡ old.closed
  pub echoes : new.echoes ≡ old.echoes

-- there is a drive, and it is closed or over
abbrev pub IsDone : {E Q : Type 0} → Option (DriveValue E Q) → Type 0
IsDone None = ⊥
IsDone (Some r) = (r.closed ≡ true) ⊎ IsOver r.held.control
