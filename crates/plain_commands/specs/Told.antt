-- What the calls of a simulation tell of their document.
use Rattle.std.specs.Prelude.{◌≡◌, ℕ, Bool, List}
use Rattle.topology_model.specs.declared.line.DeclaredSwitch.{DeclaredSwitch}
use Rattle.document_text.specs.declared.document.Document.{Document}
use Rattle.document_text.specs.declared.document.PacketLine.{PacketLine}
use Rattle.document_text.specs.declared.document.ScheduleLine.{ScheduleLine}
use Rattle.document_text.specs.Answers.{doc_of}
use Rattle.policy_rows.specs.declared.version.Version.{Version}
use Rattle.report_text.specs.Fault.TheVariants as fault
use Rattle.world_core.specs.Worlds.{WorldValue}
use Rattle.program_answer.specs.declared.answer.Answer.{Answer}
use Rattle.program_answer.specs.declared.answer.AnswerError.{AnswerError}
use Rattle.program_answer.specs.declared.answer.AnswerError.TheVariants as error
use Rattle.program_answer.specs.Statuses.{report_status}
use Rattle.plain_commands.specs.Schedules.{StopsAt}
use Rattle.plain_commands.specs.Simulate.{IsSimulationOf, StopsIn}

-- the report of the whole schedule, with the status by how it ends
pub record IsSimulatedAs (d : Document) (versions : List Version) (a : Answer) : Type 0 where
  pub halts : Bool
  pub status : a.status ≡ report_status halts
  pub simulation : IsSimulationOf halts (doc_of d) versions a.text

-- the fault of the first line whose event cannot happen; nothing is said of memory
abbrev pub TellsStop : List DeclaredSwitch → List PacketLine → WorldValue → List ScheduleLine → AnswerError → Type 0
TellsStop sites packets w schedule error.Memory = Unit {0}
TellsStop sites packets w schedule (error.Fault f) = (line : ℕ) × (f ≡ fault.NotEnabled line) ×
    StopsAt sites packets w schedule line

-- the line at which the whole schedule stops; nothing is said of memory
abbrev pub TellsStopIn : Document → List Version → AnswerError → Type 0
TellsStopIn d versions error.Memory = Unit {0}
TellsStopIn d versions (error.Fault f) = (line : ℕ) × (f ≡ fault.NotEnabled line) × StopsIn (doc_of d) versions line
