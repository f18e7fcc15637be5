-- What the calls of the caller and of the workers that bring packets in answer, by the state that they find.
use Rattle.std.specs.Prelude.{◌≡◌, ◌≢◌, ◌⊎◌, ℕ, ◌+◌, ◌<◌, ◌≤◌, true, false, List, length, Some, slice_get}
use Rattle.world_core.specs.declared.event.Event.{Event}
use Rattle.world_core.specs.declared.event.Event.TheVariants as event
use Rattle.world_core.specs.declared.event.ControllerEvent.TheVariants as of_controller
use Rattle.world_core.specs.declared.event.PacketEvent.TheVariants as of_packet
use Rattle.world_core.specs.Steps.{IsEnabled}
use Rattle.world_core.specs.Worlds.{WorldValue}
use Rattle.world_journal.specs.Arriving.{IsLast}
use Rattle.world_journal.specs.Calls.{Made, RunArrives, IsBarred, Returns}
use Rattle.world_journal.specs.Journals.{events_of, name_of, session}
use Rattle.world_journal.specs.Runs.{HasEnded, RunValue}
use Rattle.world_journal.specs.declared.line.Line.{Line}
use Rattle.world_journal.specs.declared.moves.StepOutcome.{StepOutcome}
use Rattle.world_journal.specs.declared.moves.StepOutcome.TheVariants.{Step, Nothing, Stop}
use Rattle.world_journal.specs.declared.updates.Absence.{Absence}
use Rattle.world_journal.specs.declared.updates.Update.{Update}
use Rattle.world_journal.specs.declared.updates.Update.TheVariants as update

-- The packet at a place comes in; or it has come in before, or cannot; or there is no line there, or the run was
-- closed.
abbrev pub ComesIn : {E : Type 0} → ℕ → List Line → ℕ → RunValue E → RunValue E → StepOutcome → Type 0
ComesIn w lines place old new Step = (old.closed ≡ false) × RunArrives w lines place old new
ComesIn w lines place old new Nothing = (old.closed ≡ false) × (place < length lines) ×
    ((slice_get old.arrived place ≡ Some true) ⊎ IsBarred old.held.world lines place) × (new ≡ old)
ComesIn w lines place old new Stop = ((old.closed ≡ true) ⊎ (length lines ≤ place)) × (new ≡ old)

-- A copy takes a hop; or none may take one now; or the run was closed.
abbrev pub HopsOn : {E : Type 0} → ℕ → RunValue E → RunValue E → StepOutcome → Type 0
HopsOn w old new Step = (old.closed ≡ false) × ((k : ℕ) × Made w (event.Packet (of_packet.Hop k)) old new)
HopsOn w old new Nothing = (old.closed ≡ false) ×
    ((k : ℕ) → ¬ IsEnabled old.held.world (event.Packet (of_packet.Hop k))) × (new ≡ old)
HopsOn w old new Stop = (old.closed ≡ true) × (new ≡ old)

-- In this world an update begins, or something is told of a drain: that a copy is stuck only if no update can begin.
abbrev pub IsUpdate : WorldValue → Event → Type 0
IsUpdate w (event.Controller of_controller.Begin) = Unit {0}
IsUpdate w (event.Controller (of_controller.Drained stamp)) = Unit {0}
IsUpdate w (event.Packet (of_packet.Stuck k)) = ¬ IsEnabled w (event.Controller of_controller.Begin)
IsUpdate w _ = ⊥

-- Switch s is to return: it is away, and not all updates are done.
abbrev pub IsMissing : {E : Type 0} → ℕ → RunValue E → Type 0
IsMissing s run = IsEnabled run.held.world (event.Controller (of_controller.Rejoin s)) × ¬ IsLast run.held.world

-- it is one of n switches, and is to return over a pair with this name
pub record IsAbsence {E : Type 0} (n : ℕ) (run : RunValue E) (a : Absence) : Type 0 where
  pub here : a.place < n
  pub missing : IsMissing a.place run
  pub name : a.name ≡ name_of n a.place (session a.place (events_of run.held.journal) + 1)

-- none of n switches is to return
abbrev pub NoneMissing : {E : Type 0} → ℕ → RunValue E → Type 0
NoneMissing n run = (s : ℕ) → s < n → ¬ IsMissing s run

-- A switch is to return; or none is and such a step is made, or none can be made now; or the run was closed or is over.
abbrev pub Updates : {E : Type 0} → ℕ → ℕ → List Line → RunValue E → RunValue E → Update → Type 0
Updates n w lines old new update.Step = (¬ HasEnded lines old) × NoneMissing n old ×
    ((e : Event) × IsUpdate old.held.world e × Made w e old new)
Updates n w lines old new (update.Absent a) = (¬ HasEnded lines old) × IsAbsence n old a × (new ≡ old)
Updates n w lines old new update.Nothing = (¬ HasEnded lines old) × NoneMissing n old ×
    ((e : Event) → IsUpdate old.held.world e → ¬ IsEnabled old.held.world e) × (new ≡ old)
Updates n w lines old new update.Stop = HasEnded lines old × (new ≡ old)

-- The switch of an absence returns over a pair; or it is not to return any more; or the run was closed.
abbrev pub Rejoins : {E : Type 0} → ℕ → ℕ → Absence → E × E → RunValue E → RunValue E → StepOutcome → Type 0
Rejoins n w a pair old new Step = (old.closed ≡ false) × IsAbsence n old a × Returns w a.place pair old new
Rejoins n w a pair old new Nothing = (old.closed ≡ false) × (¬ IsAbsence n old a) × (new ≡ old)
Rejoins n w a pair old new Stop = (old.closed ≡ true) × (new ≡ old)
