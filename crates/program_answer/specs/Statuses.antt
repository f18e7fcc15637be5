-- The exit statuses.
use Rattle.std.specs.Prelude.{ℕ, Bool, true, false}
use Rattle.program_answer.specs.declared.status.Status.{Status}
use Rattle.program_answer.specs.declared.status.Status.TheVariants.{Done, Refused, Usage, Halted, ReadFault, WriteFault}
use Rattle.program_answer.specs.declared.status.Status.TheVariants.{NetFault, NoThread, Memory, ReportFault}
use Rattle.report_text.specs.Fault.{Fault}
use Rattle.report_text.specs.Fault.TheVariants as fault

abbrev pub number_of : Status → ℕ
number_of Done = 0
number_of Refused = 1
number_of Usage = 2
number_of Halted = 3
number_of ReadFault = 4
number_of WriteFault = 5
number_of NetFault = 6
number_of NoThread = 7
number_of Memory = 8
number_of ReportFault = 9

-- how a call ends once the line of a fault is written
abbrev pub status_of : Fault → Status
status_of (fault.Line line column f) = Refused
status_of (fault.NotEnabled line) = Refused
status_of (fault.NotTwo line) = Refused
status_of (fault.Compile policy f) = Refused
status_of (fault.Emit policy f) = Refused
status_of fault.Read = ReadFault
status_of fault.Net = NetFault
status_of fault.NoThread = NoThread
status_of fault.Report = ReportFault
status_of fault.Usage = Usage

-- how a call ends once a report is written: `halts` says whether the updates are halted
abbrev pub report_status : Bool → Status
report_status false = Done
report_status true = Halted

-- the status of a report
abbrev pub IsReport : Status → Type 0
IsReport Done = Unit {0}
IsReport Halted = Unit {0}
IsReport Refused = ⊥
IsReport Usage = ⊥
IsReport ReadFault = ⊥
IsReport WriteFault = ⊥
IsReport NetFault = ⊥
IsReport NoThread = ⊥
IsReport Memory = ⊥
IsReport ReportFault = ⊥
