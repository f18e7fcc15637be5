-- What each command answers, and why it stops: a line of each table a command.
use Rattle.std.specs.Prelude.{◌≡◌, ℕ, List}
use Rattle.command_line.specs.declared.command.Command.{Command}
use Rattle.command_line.specs.declared.command.Command.TheVariants.{Rules, Trace, Simulate, Equiv, Audit, Run, Watch}
use Rattle.command_line.specs.declared.command.Command.TheVariants.{Drive, Generate}
use Rattle.value_text.specs.declared.fault.Fault.{Fault}
use Rattle.program_answer.specs.declared.status.Status.{Status}
use Rattle.program_answer.specs.Answers.{StopsBy}
use Rattle.program_answer.specs.Input.{IsAccepted, IsInputRefused}
use Rattle.audit_command.specs.Audit.{IsAuditAnswer}
use Rattle.drive_command.specs.Drive.{DriveStopsBy, IsDriveAnswer}
use Rattle.equal_command.specs.Equiv.{IsComparable, IsEquivAnswer, IsEquivRefused}
use Rattle.plain_commands.specs.Generate.{IsGenerateAnswer}
use Rattle.plain_commands.specs.Rules.{IsRulesAnswer}
use Rattle.plain_commands.specs.Simulate.{IsSimulateAnswer, IsSimulateRefused}
use Rattle.plain_commands.specs.Trace.{IsTraceAnswer}
use Rattle.thread_commands.specs.Run.{IsRunAnswer, RunStopsBy}
use Rattle.thread_commands.specs.Watch.{IsWatchAnswer}
use Rattle.controller_program.specs.Called.{Called}

-- the report that a command writes in a call, and the status of the call then
abbrev pub IsAnswer : {Q : Type 0} → Command → Called Q → Status → List ℕ → Type 0
IsAnswer Rules c = IsRulesAnswer c.source
IsAnswer Trace c = IsTraceAnswer c.source
IsAnswer Simulate c = IsSimulateAnswer c.source
IsAnswer Equiv c = IsEquivAnswer c.source
IsAnswer Audit c = IsAuditAnswer c.source
IsAnswer Run c = IsRunAnswer c.source c.net
IsAnswer Watch c = IsWatchAnswer c.source c.net
IsAnswer (Drive n) c = IsDriveAnswer c.reporter.stamped c.source c.net.broken
IsAnswer (Generate n) c = IsGenerateAnswer n

-- the fault for which a command writes no report in a call
abbrev pub IsStop : {Q : Type 0} → Command → Called Q → Fault → Type 0
IsStop Rules c = StopsBy IsInputRefused c.source
IsStop Trace c = StopsBy IsInputRefused c.source
IsStop Simulate c = StopsBy IsSimulateRefused c.source
IsStop Equiv c = StopsBy IsEquivRefused c.source
IsStop Audit c = StopsBy IsSimulateRefused c.source
IsStop Run c = RunStopsBy c.source c.net.faults c.threads
IsStop Watch c = RunStopsBy c.source c.net.faults c.threads
IsStop (Drive n) c = DriveStopsBy c.source c.net.faults c.threads c.reporter.faults
IsStop (Generate n) c = λ f. ⊥

-- the bytes that a command takes: a document whose policies all have rows, or two that can be compared
abbrev pub Accepts : Command → List ℕ → Type 0
Accepts Rules = IsAccepted
Accepts Trace = IsAccepted
Accepts Simulate = IsAccepted
Accepts Equiv = IsComparable
Accepts Audit = IsAccepted
Accepts Run = IsAccepted
Accepts Watch = IsAccepted
Accepts (Drive n) = IsAccepted
Accepts (Generate n) = λ xs. Unit {0}

-- the commands that need no links and no threads
abbrev pub IsThreadless : Command → Type 0
IsThreadless Rules = Unit {0}
IsThreadless Trace = Unit {0}
IsThreadless Simulate = Unit {0}
IsThreadless Equiv = Unit {0}
IsThreadless Audit = Unit {0}
IsThreadless Run = ⊥
IsThreadless Watch = ⊥
IsThreadless (Drive n) = ⊥
IsThreadless (Generate n) = Unit {0}

-- the commands that need links and threads
abbrev pub IsThreaded : Command → Type 0
IsThreaded k = ¬ (IsThreadless k)

-- the command that needs a reporter of drains
abbrev pub IsReported : Command → Type 0
IsReported k = (n : ℕ) × (k ≡ Drive n)

-- all commands
abbrev pub IsAny : Command → Type 0
IsAny k = Unit {0}
