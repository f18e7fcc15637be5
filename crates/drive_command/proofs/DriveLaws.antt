-- Drives, as the calls tell them.
use Rattle.std.proofs.Common.{◌≡◌, ℕ, List, is_some, refl, ◌∙◌}
use Rattle.document_text.specs.Documents.{Doc}
use Rattle.policy_rows.specs.declared.version.Version.{Version}
use Rattle.update_coordinator.specs.Controls.{Control}
use Rattle.program_answer.specs.Fault.TheVariants as fault
use Rattle.drive_journal.specs.declared.steering.Steering.{Steering}
use Rattle.drive_workers.specs.Driven.{IsDriven}
use Rattle.program_answer.specs.declared.answer.Answer.{Answer}
use Rattle.program_answer.specs.declared.answer.AnswerError.{AnswerError}
use Rattle.program_answer.specs.declared.answer.AnswerError.TheVariants as error
use Rattle.program_answer.specs.Answers.{Reads, Stops}
use Rattle.program_answer.specs.Called.{Change, SourceSeen}
use Rattle.program_answer.specs.Input.{IsAccepted, IsAcceptedAs, IsInputRefused}
use Rattle.program_answer.proofs.Stopping.{reads_more}
use Rattle.drive_command.specs.Drive.{DriveStops, IsDriveAnswer, IsDrivenAs, IsToldAs, TellsDriveCut, beginning}

-- the report of a drive is that of its journal and coordinator
pub driven_as : {Q : Type 0} (stamped : Q → ℕ) (broken : Change ℕ) (d : Doc) (versions : List Version) (control : Control) (journal : List Steering) (a : Answer)
    → IsDriven stamped broken.before broken.after (beginning d versions) control journal → IsToldAs d.layout.switches control journal a → IsDrivenAs stamped broken d versions a
driven_as stamped broken d versions control journal a driven told = record {
  halts = is_some control.halt;
  status = told.status;
  drive = record { control = control; journal = journal; driven = driven; ends = refl; text_is = told.text };
}

-- ---- of a source

pub drive_answers : {Q : Type 0} (stamped : Q → ℕ) (s : SourceSeen) (broken : Change ℕ) (d : Doc) (versions : List Version) (a : Answer) → Reads (λ xs. IsAcceptedAs xs d versions) s → IsDrivenAs stamped broken d versions a → IsDriveAnswer stamped s broken a.status a.text
drive_answers stamped s broken d versions a read h = record {
  halts = h.halts;
  status_is = h.status;
  read = reads_more _ _ s (λ xs accepted. record { document = d; versions = versions; accepted = accepted; drive = h.drive }) read;
}

-- a document is accepted whose versions are known
is-accepted : (s : SourceSeen) (d : Doc) (versions : List Version) → Reads (λ xs. IsAcceptedAs xs d versions) s → Reads IsAccepted s
is-accepted s d versions read = reads_more _ _ s (λ xs accepted. record { document = d; versions = versions; is = accepted }) read

pub cut_stops : (s : SourceSeen) (ports threads reports : Change ℕ) (d : Doc) (versions : List Version) (e : AnswerError) → Reads (λ xs. IsAcceptedAs xs d versions) s → TellsDriveCut ports threads reports e → DriveStops s ports threads reports e
cut_stops s ports threads reports d versions error.Memory read h = read.faultless
cut_stops s ports threads reports d versions (error.Fault fault.Net) read h = record { read = is-accepted s d versions read; rose = h }
cut_stops s ports threads reports d versions (error.Fault fault.NoThread) read h = record { read = is-accepted s d versions read; rose = h }
cut_stops s ports threads reports d versions (error.Fault fault.Report) read h = record { read = is-accepted s d versions read; rose = h }
cut_stops s ports threads reports d versions (error.Fault fault.Read) read h = absurd h
cut_stops s ports threads reports d versions (error.Fault fault.Usage) read h = absurd h
cut_stops s ports threads reports d versions (error.Fault (fault.Line line column f)) read h = absurd h
cut_stops s ports threads reports d versions (error.Fault (fault.NotEnabled line)) read h = absurd h
cut_stops s ports threads reports d versions (error.Fault (fault.NotTwo line)) read h = absurd h
cut_stops s ports threads reports d versions (error.Fault (fault.Compile policy f)) read h = absurd h
cut_stops s ports threads reports d versions (error.Fault (fault.Emit policy f)) read h = absurd h

-- what stops every command stops a drive
pub input_stops : (s : SourceSeen) (ports threads reports : Change ℕ) (e : AnswerError) → Stops IsInputRefused s e → DriveStops s ports threads reports e
input_stops s ports threads reports error.Memory h = h
input_stops s ports threads reports (error.Fault fault.Net) h = absurd h
input_stops s ports threads reports (error.Fault fault.NoThread) h = absurd h
input_stops s ports threads reports (error.Fault fault.Report) h = absurd h
input_stops s ports threads reports (error.Fault fault.Read) h = h
input_stops s ports threads reports (error.Fault fault.Usage) h = h
input_stops s ports threads reports (error.Fault (fault.Line line column f)) h = h
input_stops s ports threads reports (error.Fault (fault.NotEnabled line)) h = h
input_stops s ports threads reports (error.Fault (fault.NotTwo line)) h = h
input_stops s ports threads reports (error.Fault (fault.Compile policy f)) h = h
input_stops s ports threads reports (error.Fault (fault.Emit policy f)) h = h
