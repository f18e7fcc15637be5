-- A journal of the controller's events, the coordinator that it leads to, and what was kept for it.
use Rattle.std.specs.Prelude.{◌≡◌, ℕ, ◌<◌, ◌==◌, Bool, false, List, [], ◌∷◌, ◌++◌, length, map, Option, Some, None}
use Rattle.std.specs.Prelude.{slice_get}
use Rattle.std.specs.List.{AllByRecursion, filter}
use Rattle.openflow_wire.specs.declared.message.Message.{Message}
use Rattle.openflow_wire.specs.declared.fault.WireFault.{WireFault}
use Rattle.openflow_wire.specs.Writing.{Fits}
use Rattle.of_framing.specs.Streams.{TakesMessages, IsFront, IsFault}
use Rattle.update_coordinator.specs.declared.cause.Cause.{Cause}
use Rattle.update_coordinator.specs.Controls.{Control}
use Rattle.drive_journal.specs.declared.steering.Steering.{Steering}
use Rattle.drive_journal.specs.declared.steering.Steering.TheVariants.{Send, Heard, Drained, Lost, Garbled}
use Rattle.drive_journal.specs.Steering.{Drives}

-- ---- what was told of each switch

-- a message of switch s was heard
abbrev pub is_told : ℕ → Steering → Bool
is_told s (Heard t m) = t == s
is_told s _ = false

-- how many of its messages were heard
abbrev pub told_before : ℕ → List Steering → ℕ
told_before s journal = length (filter (is_told s) journal)

-- the counts of all switches
abbrev pub AreCounts : List Steering → List ℕ → Type 0
AreCounts journal counts = (s n : ℕ) → slice_get counts s ≡ Some n → n ≡ told_before s journal

-- ---- what can be written

-- the message of this event, if it has one, can be written
abbrev pub IsWritable : Steering → Type 0
IsWritable (Send s m) = Fits m
IsWritable (Heard s m) = Fits m
IsWritable _ = Unit {0}

abbrev pub AreWritable : List Steering → Type 0
AreWritable journal = AllByRecursion IsWritable journal

-- ---- the ends that are kept

-- after k messages of the stream of these bytes stands this one
pub record HasMessage (k : ℕ) (m : Message) (bytes : List ℕ) : Type 0 where
  pub messages : List Message
  pub behind : List ℕ
  pub taken : TakesMessages bytes messages behind
  pub count : length messages ≡ k
  pub long : ℕ
  pub front : IsFront behind long m

-- after k messages it has this fault
pub record HasFault (k : ℕ) (f : WireFault) (bytes : List ℕ) : Type 0 where
  pub messages : List Message
  pub behind : List ℕ
  pub taken : TakesMessages bytes messages behind
  pub count : length messages ≡ k
  pub fault : IsFault behind f

-- so it is, if the bytes are known
abbrev pub WhereKnown : (List ℕ → Type 0) → Option (List ℕ) → Type 0
WhereKnown P None = Unit {0}
WhereKnown P (Some bytes) = P bytes

-- What holds of the end of an event after these: it is that of the switch; a message or a fault came next in its
-- stream, if that is known; the end of a lost session had failed.
abbrev pub MetBy : {E : Type 0} → (E → ℕ) → (E → ℕ) → (E → Option (List ℕ)) → List Steering → Steering → E → Type 0
MetBy named faults received before (Heard s m) end = (named end ≡ s) ×
    WhereKnown (HasMessage (told_before s before) m) (received end)
MetBy named faults received before (Garbled s f) end = (named end ≡ s) ×
    WhereKnown (HasFault (told_before s before) f) (received end)
MetBy named faults received before (Lost s) end = (named end ≡ s) × (0 < faults end)
MetBy named faults received before _ end = ⊥

-- One end is kept for the last event, which halted the coordinator, and it met the conditions there.
pub record IsKeptFor {E : Type 0} (named faults : E → ℕ) (received : E → Option (List ℕ)) (journal : List Steering)
    (ends : List E) : Type 0 where
  pub before : List Steering
  pub event : Steering
  pub end_ : E
  pub last : journal ≡ before ++ event ∷ []
  pub only : ends ≡ end_ ∷ []
  pub met : MetBy named faults received before event end_

-- If it has not halted, none is kept.
abbrev pub KeepsFor : {E : Type 0} → (E → ℕ) → (E → ℕ) → (E → Option (List ℕ)) → Option Cause → List Steering →
    List E → Type 0
KeepsFor named faults received None journal ends = ends ≡ []
KeepsFor named faults received (Some cause) journal ends = IsKeptFor named faults received journal ends

-- ---- the reports that are kept

abbrev pub stamps_in : Steering → List ℕ
stamps_in (Drained stamp) = stamp ∷ []
stamps_in _ = []

-- the stamps of the drains that are over
abbrev pub stamps_of : List Steering → List ℕ
stamps_of [] = []
stamps_of (e ∷ es) = stamps_in e ++ stamps_of es

-- ---- the journal

-- The coordinator is what the journal leads to from the start; one report is kept for each drain, in order; and an end
-- for the event that halted it.
pub record IsSteered {E Q : Type 0} (named faults : E → ℕ) (received : E → Option (List ℕ)) (stamped : Q → ℕ)
    (start control : Control) (journal : List Steering) (receipts : List Q) (ends : List E) : Type 0 where
  pub runs : Drives start journal control
  pub drains : map stamped receipts ≡ stamps_of journal
  pub kept : KeepsFor named faults received control.halt journal ends

-- a journal with its coordinator and what was kept, as clauses see it
pub record SteeredValue (E Q : Type 0) : Type 0 where
  pub control : Control
  pub journal : List Steering
  pub receipts : List Q
  pub ends : List E
