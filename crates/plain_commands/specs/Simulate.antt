-- What `nkctl simulate` answers: the report of a schedule in the world of a document's policies.
use Rattle.std.specs.Prelude.{◌≡◌, ◌⊎◌, ℕ, Bool, List, is_some}
use Rattle.document_text.specs.Documents.{Doc}
use Rattle.policy_rows.specs.declared.version.Version.{Version}
use Rattle.world_core.specs.declared.event.Event.{Event}
use Rattle.world_core.specs.Laws.{AreGood}
use Rattle.world_core.specs.Steps.{Runs}
use Rattle.world_core.specs.Worlds.{WorldValue, IsKept}
use Rattle.report_text.specs.Reports.{IsWorldReport}
use Rattle.report_text.specs.Fault.{Fault}
use Rattle.report_text.specs.Fault.TheVariants as fault
use Rattle.program_answer.specs.declared.status.Status.{Status}
use Rattle.program_answer.specs.Answers.{Reads}
use Rattle.program_answer.specs.Called.{SourceSeen}
use Rattle.program_answer.specs.Input.{IsAcceptedAs, IsInputRefused}
use Rattle.program_answer.specs.Statuses.{report_status}
use Rattle.program_answer.specs.Worlds.{start_of}
use Rattle.plain_commands.specs.Schedules.{CarriedOut, StopsAt}

-- The whole schedule is carried out with these events and comes to this world, in which each packet that came in is
-- handled by one policy. It begins in a world that keeps what all do.
pub record IsOutcomeOf (d : Doc) (versions : List Version) (events : List Event) (world : WorldValue) : Type 0 where
  pub kept : IsKept (start_of d versions)
  pub done : CarriedOut d.layout.switches d.packets (start_of d versions) d.schedule events world
  pub runs : Runs (start_of d versions) events world
  pub good : AreGood world

-- The text is the report of the events of the whole schedule and of the world then; `halts` says whether the updates
-- are halted then.
pub record IsSimulationOf (halts : Bool) (d : Doc) (versions : List Version) (text : List ℕ) : Type 0 where
  pub events : List Event
  pub world : WorldValue
  pub outcome : IsOutcomeOf d versions events world
  pub ends : is_some world.fleet.control.halt ≡ halts
  pub text_is : IsWorldReport world events text

-- the first line of the schedule whose event cannot happen, in a world that keeps what all do
pub record StopsIn (d : Doc) (versions : List Version) (line : ℕ) : Type 0 where
  pub kept : IsKept (start_of d versions)
  pub stops : StopsAt d.layout.switches d.packets (start_of d versions) d.schedule line

-- ---- of a source

-- The bytes are accepted, and the text is the report of their whole schedule.
pub record IsSimulation (halts : Bool) (xs text : List ℕ) : Type 0 where
  pub document : Doc
  pub versions : List Version
  pub accepted : IsAcceptedAs xs document versions
  pub simulation : IsSimulationOf halts document versions text

-- the first line of the schedule whose event cannot happen
pub record IsScheduleRefusal (xs : List ℕ) (f : Fault) : Type 0 where
  pub document : Doc
  pub versions : List Version
  pub accepted : IsAcceptedAs xs document versions
  pub line : ℕ
  pub is : f ≡ fault.NotEnabled line
  pub stops : StopsIn document versions line

-- what it refuses: what every command does, and an event that cannot happen
abbrev pub IsSimulateRefused : List ℕ → Fault → Type 0
IsSimulateRefused xs f = IsInputRefused xs f ⊎ IsScheduleRefusal xs f

-- The source was read to its end, and the text is the report of its schedule: Halted if the updates are halted then,
-- and Done if not.
pub record IsSimulateAnswer (source : SourceSeen) (status : Status) (text : List ℕ) : Type 0 where
  pub halts : Bool
  pub status_is : status ≡ report_status halts
  pub read : Reads (λ xs. IsSimulation halts xs text) source

-- ---- what a schedule comes to is decided by the document and the rows of its policies

-- It has one report, and one way to end.
abbrev pub OneReport : Type 0
OneReport = (d : Doc) (versions : List Version) (halts stands : Bool) (text other : List ℕ) →
    IsSimulationOf halts d versions text → IsSimulationOf stands d versions other → (halts ≡ stands) × (text ≡ other)

-- It stops at one line.
abbrev pub OneStop : Type 0
OneStop = (d : Doc) (versions : List Version) (line other : ℕ) → StopsIn d versions line → StopsIn d versions other →
    line ≡ other

-- And where it stops it has no report.
abbrev pub NotBoth : Type 0
NotBoth = (d : Doc) (versions : List Version) (halts : Bool) (text : List ℕ) (line : ℕ) →
    IsSimulationOf halts d versions text → StopsIn d versions line → ⊥
