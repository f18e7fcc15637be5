-- What `nkctl drive` answers: the report of a drive of the switches of a document through its policies.
use Rattle.std.specs.Prelude.{◌≡◌, ℕ, Bool, List, is_some}
use Rattle.document_text.specs.Documents.{Doc}
use Rattle.policy_rows.specs.declared.version.Version.{Version}
use Rattle.document_text.specs.DeclaredSwitch.{DeclaredSwitch}
use Rattle.update_coordinator.specs.Controls.{Control}
use Rattle.program_answer.specs.Fault.{Fault}
use Rattle.program_answer.specs.Fault.TheVariants as fault
use Rattle.drive_journal.specs.declared.steering.Steering.{Steering}
use Rattle.drive_workers.specs.Driven.{IsDriven}
use Rattle.drive_text.specs.Drives.{drive_text}
use Rattle.program_answer.specs.declared.answer.Answer.{Answer}
use Rattle.program_answer.specs.declared.answer.AnswerError.{AnswerError}
use Rattle.program_answer.specs.declared.answer.AnswerError.TheVariants as error
use Rattle.program_answer.specs.declared.status.Status.{Status}
use Rattle.program_answer.specs.Answers.{Reads, StopsBy}
use Rattle.program_answer.specs.Called.{Change, HasRisen, IsSame, SourceSeen}
use Rattle.program_answer.specs.Input.{IsAccepted, IsAcceptedAs, IsInputRefused}
use Rattle.program_answer.specs.Statuses.{report_status}
use Rattle.program_answer.specs.Worlds.{start_of_drive}

-- ---- the drive

-- The coordinator of the document's world before anything has happened. The first loss halts it, and no drains overlap.
abbrev pub beginning : Doc → List Version → Control
beginning d versions = (start_of_drive d versions).fleet.control

-- The journal leads from the beginning to this coordinator, which has halted or has the last policy handle all packets;
-- `halts` says which. Each drain in it was reported, and a session is lost only if the net's count of broken ends rose.
-- The text is that of the journal and of the coordinator.
pub record IsDriveOf {Q : Type 0} (stamped : Q → ℕ) (halts : Bool) (broken : Change ℕ) (d : Doc)
    (versions : List Version) (text : List ℕ) : Type 0 where
  pub control : Control
  pub journal : List Steering
  pub driven : IsDriven stamped broken.before broken.after (beginning d versions) control journal
  pub ends : is_some control.halt ≡ halts
  pub text_is : text ≡ drive_text d.layout.switches journal control.phase control.halt

-- ---- of a source

-- The bytes are accepted, and the text is the report of a drive through their policies.
pub record IsDrive {Q : Type 0} (stamped : Q → ℕ) (halts : Bool) (broken : Change ℕ) (xs text : List ℕ) : Type 0 where
  pub document : Doc
  pub versions : List Version
  pub accepted : IsAcceptedAs xs document versions
  pub drive : IsDriveOf stamped halts broken document versions text

-- The source was read to its end, and the text is the report of a drive: Halted if it has halted, and Done if the last
-- policy handles all packets.
pub record IsDriveAnswer {Q : Type 0} (stamped : Q → ℕ) (source : SourceSeen) (broken : Change ℕ) (status : Status)
    (text : List ℕ) : Type 0 where
  pub halts : Bool
  pub status_is : status ≡ report_status halts
  pub read : Reads (λ xs. IsDrive stamped halts broken xs text) source

-- The source was read to its end, its document is accepted, and then a count rose: that of ports, of threads or of the
-- reporter.
pub record IsCut (source : SourceSeen) (count : Change ℕ) : Type 0 where
  pub read : Reads IsAccepted source
  pub rose : HasRisen count

-- why it stops: as every command does, or for a port that could not be opened, a thread that could not be made, or a
-- reporter that failed
abbrev pub DriveStopsBy : SourceSeen → Change ℕ → Change ℕ → Change ℕ → Fault → Type 0
DriveStopsBy source ports threads reports fault.Net = IsCut source ports
DriveStopsBy source ports threads reports fault.NoThread = IsCut source threads
DriveStopsBy source ports threads reports fault.Report = IsCut source reports
DriveStopsBy source ports threads reports fault.Read = StopsBy IsInputRefused source fault.Read
DriveStopsBy source ports threads reports fault.Usage = StopsBy IsInputRefused source fault.Usage
DriveStopsBy source ports threads reports (fault.Line line column f) =
    StopsBy IsInputRefused source (fault.Line line column f)
DriveStopsBy source ports threads reports (fault.NotEnabled line) =
    StopsBy IsInputRefused source (fault.NotEnabled line)
DriveStopsBy source ports threads reports (fault.NotTwo line) = StopsBy IsInputRefused source (fault.NotTwo line)
DriveStopsBy source ports threads reports (fault.Compile policy f) =
    StopsBy IsInputRefused source (fault.Compile policy f)
DriveStopsBy source ports threads reports (fault.Emit policy f) = StopsBy IsInputRefused source (fault.Emit policy f)

-- the same, if it is not out of memory, before which no read failed
abbrev pub DriveStops : SourceSeen → Change ℕ → Change ℕ → Change ℕ → AnswerError → Type 0
DriveStops source ports threads reports (error.Fault f) = DriveStopsBy source ports threads reports f
DriveStops source ports threads reports error.Memory = IsSame source.faults

-- ---- of a document, as the calls tell it

-- the report of a journal with its coordinator, with the status by how it ends
pub record IsToldAs (switches : List DeclaredSwitch) (control : Control) (journal : List Steering) (a : Answer) : Type
    0 where
  pub status : a.status ≡ report_status (is_some control.halt)
  pub text : a.text ≡ drive_text switches journal control.phase control.halt

-- the report of a drive, with the status by how it ends
pub record IsDrivenAs {Q : Type 0} (stamped : Q → ℕ) (broken : Change ℕ) (d : Doc) (versions : List Version)
    (a : Answer) : Type 0 where
  pub halts : Bool
  pub status : a.status ≡ report_status halts
  pub drive : IsDriveOf stamped halts broken d versions a.text

-- which count rose; nothing is said of memory
abbrev pub TellsDriveCut : Change ℕ → Change ℕ → Change ℕ → AnswerError → Type 0
TellsDriveCut ports threads reports error.Memory = Unit {0}
TellsDriveCut ports threads reports (error.Fault fault.Net) = HasRisen ports
TellsDriveCut ports threads reports (error.Fault fault.NoThread) = HasRisen threads
TellsDriveCut ports threads reports (error.Fault fault.Report) = HasRisen reports
TellsDriveCut ports threads reports (error.Fault fault.Read) = ⊥
TellsDriveCut ports threads reports (error.Fault fault.Usage) = ⊥
TellsDriveCut ports threads reports (error.Fault (fault.Line line column f)) = ⊥
TellsDriveCut ports threads reports (error.Fault (fault.NotEnabled line)) = ⊥
TellsDriveCut ports threads reports (error.Fault (fault.NotTwo line)) = ⊥
TellsDriveCut ports threads reports (error.Fault (fault.Compile policy f)) = ⊥
TellsDriveCut ports threads reports (error.Fault (fault.Emit policy f)) = ⊥
