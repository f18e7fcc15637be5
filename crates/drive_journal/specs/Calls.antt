-- What the calls of the workers of a drive answer, by the state that they find.
use Rattle.std.specs.Prelude.{◌≡◌, ◌≢◌, ◌⊎◌, ℕ, true, List, [], ◌∷◌, ◌++◌, Option, Some, None, slice_set}
use Rattle.openflow_wire.specs.declared.message.Message.{Message}
use Rattle.of_framing.specs.Streams.{IsFront, IsFault, IsRest}
use Rattle.worker_desk.specs.declared.gate.StepKind.TheVariants as kind
use Rattle.session_core.specs.Sessions.{reply_of}
use Rattle.update_coordinator.specs.Calls.{begin_refusal, drain_refusal}
use Rattle.update_coordinator.specs.Controls.{Control}
use Rattle.update_coordinator.specs.Sending.{MaySend, Owes, HasGreeted}
use Rattle.worker_desk.specs.declared.desk.WorkerTask.{WorkerTask}
use Rattle.worker_desk.specs.declared.desk.WorkerTask.TheVariants.{Out, Expect, Nothing, NewEnd, Stop}
use Rattle.worker_desk.specs.declared.desk.TellResult.{TellResult}
use Rattle.worker_desk.specs.declared.desk.TellResult.TheVariants.{Back, Kept, Memory}
use Rattle.worker_desk.specs.declared.desk.IdleTask.{IdleTask}
use Rattle.worker_desk.specs.declared.desk.IdleTask.TheVariants as shut
use Rattle.drive_journal.specs.declared.steering.Steering.{Steering}
use Rattle.drive_journal.specs.declared.steering.Steering.TheVariants as steering
use Rattle.drive_journal.specs.declared.updates.CallerTask.{CallerTask}
use Rattle.drive_journal.specs.declared.updates.CallerTask.TheVariants as next
use Rattle.drive_journal.specs.declared.element.Element.{Element}
use Rattle.drive_journal.specs.declared.element.Element.TheVariants as element
use Rattle.drive_journal.specs.Steering.{Steers}
use Rattle.drive_journal.specs.Journals.{HasMessage, HasFault, WhereKnown, told_before}
use Rattle.drive_journal.specs.Cuts.{NotesEvent}
use Rattle.drive_journal.specs.Drives.{DriveValue, IsBeside, IsOver, Stops, echo_at, answering}

-- ---- what bytes are

-- the bytes are this element of a stream
abbrev pub IsElement : List ℕ → Element → Type 0
IsElement bytes (element.Message m) = (n : ℕ) × IsFront bytes n m
IsElement bytes (element.Fault f) = IsFault bytes f
IsElement bytes element.Rest = IsRest bytes
IsElement bytes element.Memory = Unit {0}

-- in a stream that is known, this element comes after k messages
abbrev pub IsNextElement : ℕ → Option (List ℕ) → Element → Type 0
IsNextElement k received (element.Message m) = WhereKnown (HasMessage k m) received
IsNextElement k received (element.Fault f) = WhereKnown (HasFault k f) received
IsNextElement k received element.Rest = WhereKnown (λ bytes. ⊥) received
IsNextElement k received element.Memory = Unit {0}

-- ---- give

-- the message went to switch s, and this was noted
pub record SendsOut {E Q : Type 0} (s : ℕ) (m : Message) (old new : DriveValue E Q) : Type 0 where
  pub noted : NotesEvent (steering.Send s m) old.held new.held
  pub rest : IsBeside old new

-- nothing is to be sent to switch s
abbrev pub IsIdle : {E Q : Type 0} → ℕ → DriveValue E Q → Type 0
IsIdle s r = (echo_at r s ≡ None) × ¬ MaySend s r.held.control

-- a message of switch s is to come: it owes a reply, or it did not greet yet
abbrev pub IsAwaited : {E Q : Type 0} → ℕ → DriveValue E Q → Type 0
IsAwaited s r = Owes s r.held.control ⊎ (¬ HasGreeted s r.held.control)

-- what is answered if nothing is to be sent
abbrev pub RestsAs : {E Q : Type 0} → ℕ → DriveValue E Q → WorkerTask E → Type 0
RestsAs s r (Expect None) = IsAwaited s r
RestsAs s r (Nothing None) = ¬ IsAwaited s r
RestsAs s r _ = ⊥

-- the answer that is to be sent
abbrev pub GivesEcho : {E Q : Type 0} → ℕ → DriveValue E Q → DriveValue E Q → WorkerTask E → Type 0
GivesEcho s old new (Out m None) = (echo_at old s ≡ Some m) × (new ≡ answering old s None)
GivesEcho s old new _ = ⊥

-- the next message, or what is to be done if there is none
abbrev pub GivesNext : {E Q : Type 0} → ℕ → DriveValue E Q → DriveValue E Q → WorkerTask E → Type 0
GivesNext s old new Stop = ⊥
GivesNext s old new (Out m (Some kind.Send)) = SendsOut s m old new
GivesNext s old new (Out m _) = ⊥
GivesNext s old new (Expect None) = (¬ MaySend s old.held.control) × IsAwaited s old × (new ≡ old)
GivesNext s old new (Expect (Some _)) = ⊥
GivesNext s old new (Nothing None) = (¬ MaySend s old.held.control) × (¬ IsAwaited s old) × (new ≡ old)
GivesNext s old new (Nothing (Some _)) = ⊥
GivesNext s old new (NewEnd e) = ⊥

-- What `give` answers to the worker of switch s: that it is to stop; the answer that is to be sent; the next message;
-- to receive, if one is to come; or nothing.
abbrev pub DriveGives : {E Q : Type 0} → ℕ → DriveValue E Q → DriveValue E Q → WorkerTask E → Type 0
DriveGives s old new Stop = Stops old s × (new ≡ old)
DriveGives s old new (Out m None) = (¬ Stops old s) × (echo_at old s ≡ Some m) × (new ≡ answering old s None)
DriveGives s old new (Out m (Some kind.Send)) = (¬ Stops old s) × (echo_at old s ≡ None) × SendsOut s m old new
DriveGives s old new (Out m (Some _)) = ⊥
DriveGives s old new (Expect None) = (¬ Stops old s) × IsIdle s old × IsAwaited s old × (new ≡ old)
DriveGives s old new (Expect (Some _)) = ⊥
DriveGives s old new (Nothing None) = (¬ Stops old s) × IsIdle s old × (¬ IsAwaited s old) × (new ≡ old)
DriveGives s old new (Nothing (Some _)) = ⊥
DriveGives s old new (NewEnd e) = ⊥

-- Out of memory, nothing changed, or the next message was noted as sent.
abbrev pub RunsOut : {E Q : Type 0} → ℕ → DriveValue E Q → DriveValue E Q → Type 0
RunsOut s old new = (new ≡ old) ⊎ ((m : Message) × SendsOut s m old new)

-- ---- tell, lost, shut

-- what switch s did by an element of its stream
abbrev pub IsEventOf : ℕ → Element → Steering → Type 0
IsEventOf s (element.Message m) e = e ≡ steering.Heard s m
IsEventOf s (element.Fault f) e = e ≡ steering.Garbled s f
IsEventOf s element.Rest e = ⊥
IsEventOf s element.Memory e = ⊥

-- the message was heard, and its answer is to be sent
pub record Hears {E Q : Type 0} (s : ℕ) (m : Message) (old new : DriveValue E Q) : Type 0 where
  pub noted : NotesEvent (steering.Heard s m) old.held new.held
  pub running : new.held.control.halt ≡ None
  pub closed : new.closed ≡ old.closed
  pub echoes : new.echoes ≡ slice_set old.echoes s (reply_of m)

-- the event halted the coordinator, and the end was kept
pub record DriveCuts {E Q : Type 0} (e : Steering) (end : E) (old new : DriveValue E Q) : Type 0 where
  pub step : Steers old.held.control e new.held.control
  pub journal : new.held.journal ≡ old.held.journal ++ e ∷ []
  pub receipts : new.held.receipts ≡ old.held.receipts
  pub ends : new.held.ends ≡ old.held.ends ++ end ∷ []
  pub halted : new.held.control.halt ≢ None
  pub rest : IsBeside old new

-- nothing can come of the bytes: others came before them, or they are less than a message, or the coordinator has
-- halted
abbrev pub IsVain : {E Q : Type 0} → ℕ → List ℕ → ℕ → DriveValue E Q → Type 0
IsVain s bytes k r = (¬ (told_before s r.held.journal ≡ k)) ⊎ (IsRest bytes ⊎ (r.held.control.halt ≢ None))

-- what is answered to an element that came next
abbrev pub HearsAs : {E Q : Type 0} → ℕ → Element → E → DriveValue E Q → DriveValue E Q → TellResult E → Type 0
HearsAs s (element.Message m) end old new (Back e (Some kind.Heard)) = (e ≡ end) × Hears s m old new
HearsAs s x end old new (Back e (Some _)) = ⊥
HearsAs s x end old new (Back e None) = (e ≡ end) × (new ≡ old) × (old.held.control.halt ≢ None)
HearsAs s x end old new Kept = (e : Steering) × IsEventOf s x e × DriveCuts e end old new
HearsAs s x end old new (Memory e) = (e ≡ end) × (new ≡ old)

-- What `tell` answers: a message is heard; what halts the coordinator has its end kept; other bytes come to nothing.
abbrev pub DriveTells : {E Q : Type 0} → ℕ → List ℕ → ℕ → E → DriveValue E Q → DriveValue E Q → TellResult E → Type 0
DriveTells s bytes k end old new (Back e (Some kind.Heard)) = (e ≡ end) × (told_before s old.held.journal ≡ k) ×
    ((m : Message) × IsElement bytes (element.Message m) × Hears s m old new)
DriveTells s bytes k end old new (Back e (Some _)) = ⊥
DriveTells s bytes k end old new (Back e None) = (e ≡ end) × (new ≡ old) × IsVain s bytes k old
DriveTells s bytes k end old new Kept = (told_before s old.held.journal ≡ k) ×
    ((x : Element) × (e : Steering) × IsElement bytes x × IsEventOf s x e × DriveCuts e end old new)
DriveTells s bytes k end old new (Memory e) = (e ≡ end) × (new ≡ old)

-- what `lost` answers
abbrev pub DriveLoses : {E Q : Type 0} → ℕ → E → DriveValue E Q → DriveValue E Q → TellResult E → Type 0
DriveLoses s end old new (Back e None) = (e ≡ end) × (old.held.control.halt ≢ None) × (new ≡ old)
DriveLoses s end old new (Back e (Some _)) = ⊥
DriveLoses s end old new Kept = DriveCuts (steering.Lost s) end old new
DriveLoses s end old new (Memory e) = (e ≡ end) × (new ≡ old)

-- what `shut` answers
abbrev pub Shuts : {E : Type 0} → Type 0 → IdleTask E → Type 0
Shuts stop shut.Nothing = ¬ stop
Shuts stop shut.Stop = stop
Shuts stop (shut.NewEnd e) = ⊥

-- ---- the caller

-- what the caller is to wait for, if no update can begin
abbrev pub IsAwaitedBy : Control → CallerTask → Type 0
IsAwaitedBy c next.Stop = ⊥
IsAwaitedBy c next.Step = ⊥
IsAwaitedBy c (next.Wait stamp) = drain_refusal c stamp ≡ None
IsAwaitedBy c next.Nothing = (stamp : ℕ) → ¬ (drain_refusal c stamp ≡ None)

-- What the caller is to do: to stop; it has begun an update; to wait for the report of a stamp; or nothing now.
abbrev pub Updates : {E Q : Type 0} → DriveValue E Q → DriveValue E Q → CallerTask → Type 0
Updates old new next.Stop = ((old.closed ≡ true) ⊎ IsOver old.held.control) × (new ≡ old)
Updates old new next.Step = NotesEvent steering.Begin old.held new.held × IsBeside old new
Updates old new (next.Wait stamp) = (drain_refusal old.held.control stamp ≡ None) × (new ≡ old)
Updates old new next.Nothing = (¬ (begin_refusal old.held.control ≡ None)) ×
    ((stamp : ℕ) → ¬ (drain_refusal old.held.control stamp ≡ None)) × (new ≡ old)
