-- What the top call writes, by its words and by what became of all that was handed in.
use Rattle.std.specs.Prelude.{◌≡◌, ◌≢◌, ◌⊎◌, ℕ, List, None, String, IfSome}
use Rattle.std.specs.declared.alloc.Global.{Global}
use Rattle.outside_io.specs.Lists.{TakesAtMost}
use Rattle.command_line.specs.declared.command.Command.{Command}
use Rattle.command_line.specs.Commands.{Asks, IsReader}
use Rattle.value_text.specs.declared.fault.Fault.{Fault}
use Rattle.value_text.specs.declared.fault.Fault.TheVariants as fault
use Rattle.value_text.specs.Faults.{fault_text}
use Rattle.program_answer.specs.declared.status.Status.{Status}
use Rattle.program_answer.specs.declared.status.Status.TheVariants.{Done, Refused, Usage, Halted, ReadFault, WriteFault}
use Rattle.program_answer.specs.declared.status.Status.TheVariants.{NetFault, NoThread, Memory, ReportFault}
use Rattle.program_answer.specs.Called.{Change, HasRisen, IsSame, NetSeen}
use Rattle.program_answer.specs.Statuses.{status_of}
use Rattle.program_answer.specs.Writing.{Wrote, WrotePrefix}
use Rattle.controller_program.specs.Called.{Called, ReporterSeen}
use Rattle.controller_program.specs.Commands.{Accepts, IsAnswer, IsStop}

-- ---- words

-- the words ask for one of these commands
abbrev pub IsLine : (Command → Type 0) → List (String Global) → Type 0
IsLine Takes words = (k : Command) × Takes k × Asks k words

-- for one that reads a document
abbrev pub ReadsFrom : (Command → Type 0) → List (String Global) → Type 0
ReadsFrom Takes words = (k : Command) × Takes k × IsReader k × Asks k words

-- ---- what is due

-- The words ask for a command, and the text is its report.
pub record IsAnswered {Q : Type 0} (Takes : Command → Type 0) (c : Called Q) (status : Status) (text : List ℕ) : Type 0
  where
    pub command : Command
    pub takes : Takes command
    pub asks : Asks command c.words
    pub answer : IsAnswer command c status text

-- The words ask for a command that stops for this fault, and the text is the fault's line.
pub record IsStopped {Q : Type 0} (Takes : Command → Type 0) (c : Called Q) (f : Fault) (text : List ℕ) : Type 0 where
  pub command : Command
  pub takes : Takes command
  pub asks : Asks command c.words
  pub stop : IsStop command c f
  pub line : text ≡ fault_text f

-- The words ask for a command that refuses its document, a policy of it or a line of its schedule, and the text is the
-- line of that fault.
pub record IsRefusal {Q : Type 0} (Takes : Command → Type 0) (c : Called Q) (text : List ℕ) : Type 0 where
  pub fault : Fault
  pub refused : status_of fault ≡ Refused
  pub stopped : IsStopped Takes c fault text

-- The words are no command line, and the text is the usage line.
pub record IsUsage {Q : Type 0} (Takes : Command → Type 0) (c : Called Q) (text : List ℕ) : Type 0 where
  pub other : ¬ (IsLine Takes c.words)
  pub line : text ≡ fault_text fault.Usage

-- What a call has to write that ends with this status, where these commands are taken.
abbrev pub IsDue : {Q : Type 0} → (Command → Type 0) → Called Q → Status → List ℕ → Type 0
IsDue Takes c Done text = IsAnswered Takes c Done text
IsDue Takes c Halted text = IsAnswered Takes c Halted text
IsDue Takes c Refused text = IsRefusal Takes c text
IsDue Takes c Usage text = IsUsage Takes c text
IsDue Takes c ReadFault text = IsStopped Takes c fault.Read text
IsDue Takes c NetFault text = IsStopped Takes c fault.Net text
IsDue Takes c NoThread text = IsStopped Takes c fault.NoThread text
IsDue Takes c ReportFault text = IsStopped Takes c fault.Report text
IsDue Takes c WriteFault text = ⊥
IsDue Takes c Memory text = ⊥

-- ---- the call

-- a prefix of what was due with some status
pub record IsCutShort {Q : Type 0} (Takes : Command → Type 0) (c : Called Q) : Type 0 where
  pub due : Status
  pub prefix : WrotePrefix (IsDue Takes c due) c.sink

-- What holds of each call, where these commands are taken:
-- `wrote`: unless the sink failed or memory ran out, the sink got what is due;
-- `write_fault` and `prefix`: if the sink failed, its count rose, and it got a prefix of what was due;
-- `reads` and `writes`: the counts of the source and of the sink rise for no other status;
-- `taken`: of the source no more is taken than shows that it is too long;
-- `no_command`: other words give the usage line, unless the sink fails or memory runs out;
-- `complete`: a command that no fault stops gives its report, unless the sink fails or memory runs out;
-- `refuses`: what its command does not take is refused, unless a read or a write fails or memory runs out, whatever
-- links and threads do.
pub record IsCall {Q : Type 0} (Takes : Command → Type 0) (c : Called Q) (status : Status) : Type 0 where
  pub wrote : status ≢ WriteFault → status ≢ Memory → Wrote (IsDue Takes c status) c.sink
  pub write_fault : status ≡ WriteFault → HasRisen c.sink.faults
  pub prefix : status ≡ WriteFault → IsCutShort Takes c
  pub reads : status ≢ ReadFault → status ≢ WriteFault → IsSame c.source.faults
  pub writes : status ≢ WriteFault → IsSame c.sink.faults
  pub taken : TakesAtMost 4194305 c.source.left.before c.source.left.after
  pub no_command : ¬ (IsLine Takes c.words) → ((status ≡ Usage) ⊎ (status ≡ WriteFault)) ⊎ (status ≡ Memory)
  pub complete : (k : Command) → Takes k → Asks k c.words → ((f : Fault) → ¬ (IsStop k c f)) →
      ¬ (HasRisen c.sink.faults) → ((status ≡ Done) ⊎ (status ≡ Halted)) ⊎ (status ≡ Memory)
  pub refuses : (k : Command) → Takes k → IsReader k → Asks k c.words → ¬ (HasRisen c.source.faults) →
      ¬ (HasRisen c.sink.faults) →
      IfSome c.source.left.before (λ xs. ¬ (Accepts k xs) → (status ≡ Refused) ⊎ (status ≡ Memory))

-- ---- calls without links, threads and a reporter

abbrev pub still : Change ℕ
still = record { before = 0; after = 0 }

abbrev pub no_net : NetSeen
no_net = record { faults = still; broken = still; gathered = record { before = None; after = None } }

abbrev pub no_reporter : ReporterSeen ℕ
no_reporter = record { faults = still; stamped = λ stamp. stamp }
