-- What a call on a journal did, and what a refused one says and hands back.
use Rattle.std.specs.Prelude.{◌≡◌, ◌≢◌, ◌<◌, ℕ, List, [], ◌∷◌, ◌++◌, Option, Some, None}
use Rattle.openflow_wire.specs.declared.message.Message.{Message}
use Rattle.openflow_wire.specs.Writing.{Fits}
use Rattle.drive_journal.specs.declared.steering.Steering.{Steering}
use Rattle.drive_journal.specs.declared.steering.Steering.TheVariants.{Send, Heard, Lost, Garbled}
use Rattle.drive_journal.specs.declared.refused.Rejection.{Rejection}
use Rattle.drive_journal.specs.declared.refused.Rejection.TheVariants.{NotEnabled, Memory}
use Rattle.drive_journal.specs.Steering.{Steers}
use Rattle.drive_journal.specs.Journals.{SteeredValue}

abbrev pub HandsBack : {X : Type 0} → X → Rejection X → Type 0
HandsBack x (NotEnabled y) = y ≡ x
HandsBack x (Memory y) = y ≡ x

-- what holds if the event could not happen
abbrev pub Refuses : {X : Type 0} → Type 0 → Rejection X → Type 0
Refuses P (NotEnabled y) = P
Refuses P (Memory y) = Unit {0}

-- an event of one of n switches
abbrev pub IsAmong : ℕ → Steering → Type 0
IsAmong n (Heard s m) = s < n
IsAmong n (Lost s) = s < n
IsAmong n (Garbled s f) = s < n
IsAmong n _ = ⊥

-- a lost session and a fault of a stream halt the coordinator
abbrev pub Halts : Steering → Type 0
Halts (Lost s) = Unit {0}
Halts (Garbled s f) = Unit {0}
Halts _ = ⊥

-- The end is kept exactly if the coordinator has halted, and else it comes back.
abbrev pub KeepsEnd : {E Q : Type 0} → E → List E → SteeredValue E Q → Option E → Type 0
KeepsEnd end ends new None = (new.control.halt ≢ None) × (new.ends ≡ ends ++ end ∷ [])
KeepsEnd end ends new (Some e) = (e ≡ end) × (new.control.halt ≡ None) × (new.ends ≡ ends)

-- this event happened and was noted, and what was kept is the same
pub record NotesEvent {E Q : Type 0} (e : Steering) (old new : SteeredValue E Q) : Type 0 where
  pub step : Steers old.control e new.control
  pub journal : new.journal ≡ old.journal ++ e ∷ []
  pub receipts : new.receipts ≡ old.receipts
  pub ends : new.ends ≡ old.ends

-- a copy of a message, or none (out of memory)
abbrev pub IsCopy : Message → Option Message → Type 0
IsCopy m None = Unit {0}
IsCopy m (Some x) = x ≡ m

-- the next message went to switch s, and this is a copy of it
pub record Sends {E Q : Type 0} (s : ℕ) (copy : Option Message) (old new : SteeredValue E Q) : Type 0 where
  pub message : Message
  pub fits : Fits message
  pub noted : NotesEvent (Send s message) old new
  pub same : IsCopy message copy
