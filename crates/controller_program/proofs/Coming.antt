-- What words come to, from what their command comes to.
use Rattle.std.proofs.Common.{◌≡◌, ◌≢◌, ◌∙◌, refl, sym, subst, ℕ, Bool, true, false, List, String, Result, Ok, Err, IfOk, IfErr}
use Rattle.std.specs.declared.alloc.Global.{Global}
use Rattle.command_line.specs.declared.command.Command.{Command}
use Rattle.command_line.specs.declared.command.Command.TheVariants.{Rules, Trace, Simulate, Equiv, Audit, Run, Watch, Drive, Generate}
use Rattle.command_line.specs.Commands.{Asks, IsCommandLine, IsReader}
use Rattle.command_line.proofs.Words.{one_command_asked}
use Rattle.value_text.specs.declared.fault.Fault.TheVariants as fault
use Rattle.program_answer.specs.declared.answer.Answer.{Answer}
use Rattle.program_answer.specs.declared.answer.AnswerError.{AnswerError}
use Rattle.program_answer.specs.declared.answer.AnswerError.TheVariants as error
use Rattle.program_answer.specs.declared.status.Status.{Status}
use Rattle.program_answer.specs.declared.status.Status.TheVariants as status
use Rattle.program_answer.specs.Answers.{Stops, StopsBy}
use Rattle.program_answer.specs.Called.{IsSame, SourceSeen}
use Rattle.program_answer.specs.Input.{IsInputRefused}
use Rattle.program_answer.specs.Statuses.{IsReport, report_status}
use Rattle.audit_command.specs.Audit.{IsAuditAnswer}
use Rattle.drive_command.specs.Drive.{DriveStops, IsDriveAnswer}
use Rattle.equal_command.specs.Equiv.{IsEquivAnswer, IsEquivRefused}
use Rattle.plain_commands.specs.Generate.{IsGenerateAnswer}
use Rattle.plain_commands.specs.Rules.{IsRulesAnswer}
use Rattle.plain_commands.specs.Simulate.{IsSimulateAnswer, IsSimulateRefused}
use Rattle.plain_commands.specs.Trace.{IsTraceAnswer}
use Rattle.thread_commands.specs.Run.{IsRunAnswer, RunStops}
use Rattle.thread_commands.specs.Watch.{IsWatchAnswer}
use Rattle.controller_program.specs.Called.{Called}
use Rattle.controller_program.specs.Calls.{IsLine}
use Rattle.controller_program.specs.Commands.{IsAny, IsAnswer, IsThreaded, IsThreadless}
use Rattle.controller_program.specs.Told.{AnswersWords, AnswersTo, by, none, memory}

-- ---- each command

at-source : {Q : Type 0} (c : Called Q) (s : SourceSeen) (P : SourceSeen → Type 0) → c.source ≡ s → P s → P c.source
at-source c s P is p = subst P (sym is) p

rules-here : {Q : Type 0} (c : Called Q) (r : Result Answer AnswerError) → IfOk r (λ a. IsRulesAnswer c.source a.status a.text) → IfErr r (Stops IsInputRefused c.source) → AnswersTo Rules c r
rules-here c (Ok a) o e = o
rules-here c (Err (error.Fault f)) o e = e
rules-here c (Err error.Memory) o e = e

pub to_rules : {Q : Type 0} (c : Called Q) (s : SourceSeen) (r : Result Answer AnswerError) → c.source ≡ s → IfOk r (λ a. IsRulesAnswer s a.status a.text) → IfErr r (Stops IsInputRefused s) → AnswersTo Rules c r
to_rules c s r is o e = rules-here c r (at-source c s (λ x. IfOk r (λ a. IsRulesAnswer x a.status a.text)) is o) (at-source c s (λ x. IfErr r (Stops IsInputRefused x)) is e)

trace-here : {Q : Type 0} (c : Called Q) (r : Result Answer AnswerError) → IfOk r (λ a. IsTraceAnswer c.source a.status a.text) → IfErr r (Stops IsInputRefused c.source) → AnswersTo Trace c r
trace-here c (Ok a) o e = o
trace-here c (Err (error.Fault f)) o e = e
trace-here c (Err error.Memory) o e = e

pub to_trace : {Q : Type 0} (c : Called Q) (s : SourceSeen) (r : Result Answer AnswerError) → c.source ≡ s → IfOk r (λ a. IsTraceAnswer s a.status a.text) → IfErr r (Stops IsInputRefused s) → AnswersTo Trace c r
to_trace c s r is o e = trace-here c r (at-source c s (λ x. IfOk r (λ a. IsTraceAnswer x a.status a.text)) is o) (at-source c s (λ x. IfErr r (Stops IsInputRefused x)) is e)

simulate-here : {Q : Type 0} (c : Called Q) (r : Result Answer AnswerError) → IfOk r (λ a. IsSimulateAnswer c.source a.status a.text) → IfErr r (Stops IsSimulateRefused c.source) → AnswersTo Simulate c r
simulate-here c (Ok a) o e = o
simulate-here c (Err (error.Fault f)) o e = e
simulate-here c (Err error.Memory) o e = e

pub to_simulate : {Q : Type 0} (c : Called Q) (s : SourceSeen) (r : Result Answer AnswerError) → c.source ≡ s → IfOk r (λ a. IsSimulateAnswer s a.status a.text) → IfErr r (Stops IsSimulateRefused s) → AnswersTo Simulate c r
to_simulate c s r is o e = simulate-here c r (at-source c s (λ x. IfOk r (λ a. IsSimulateAnswer x a.status a.text)) is o) (at-source c s (λ x. IfErr r (Stops IsSimulateRefused x)) is e)

equiv-here : {Q : Type 0} (c : Called Q) (r : Result Answer AnswerError) → IfOk r (λ a. IsEquivAnswer c.source a.status a.text) → IfErr r (Stops IsEquivRefused c.source) → AnswersTo Equiv c r
equiv-here c (Ok a) o e = o
equiv-here c (Err (error.Fault f)) o e = e
equiv-here c (Err error.Memory) o e = e

pub to_equiv : {Q : Type 0} (c : Called Q) (s : SourceSeen) (r : Result Answer AnswerError) → c.source ≡ s → IfOk r (λ a. IsEquivAnswer s a.status a.text) → IfErr r (Stops IsEquivRefused s) → AnswersTo Equiv c r
to_equiv c s r is o e = equiv-here c r (at-source c s (λ x. IfOk r (λ a. IsEquivAnswer x a.status a.text)) is o) (at-source c s (λ x. IfErr r (Stops IsEquivRefused x)) is e)

audit-here : {Q : Type 0} (c : Called Q) (r : Result Answer AnswerError) → IfOk r (λ a. IsAuditAnswer c.source a.status a.text) → IfErr r (Stops IsSimulateRefused c.source) → AnswersTo Audit c r
audit-here c (Ok a) o e = o
audit-here c (Err (error.Fault f)) o e = e
audit-here c (Err error.Memory) o e = e

pub to_audit : {Q : Type 0} (c : Called Q) (s : SourceSeen) (r : Result Answer AnswerError) → c.source ≡ s → IfOk r (λ a. IsAuditAnswer s a.status a.text) → IfErr r (Stops IsSimulateRefused s) → AnswersTo Audit c r
to_audit c s r is o e = audit-here c r (at-source c s (λ x. IfOk r (λ a. IsAuditAnswer x a.status a.text)) is o) (at-source c s (λ x. IfErr r (Stops IsSimulateRefused x)) is e)

-- the count of its source is the same, as it takes none
pub to_generate : {Q : Type 0} (c : Called Q) (n before : ℕ) (r : Result Answer AnswerError) → c.source.faults.before ≡ before → c.source.faults.after ≡ before → IfOk r (λ a. IsGenerateAnswer n a.status a.text) → IfErr r (λ e. e ≡ error.Memory) → AnswersTo (Generate n) c r
to_generate c n before (Ok a) first last o e = o
to_generate c n before (Err x) first last o e = subst (λ (y : AnswerError). AnswersTo (Generate n) c (Err y)) (sym e) (last ∙ sym first)

pub to_run : {Q : Type 0} (c : Called Q) (r : Result Answer AnswerError) → IfOk r (λ a. IsRunAnswer c.source c.net a.status a.text) → IfErr r (RunStops c.source c.net.faults c.threads) → AnswersTo Run c r
to_run c (Ok a) o e = o
to_run c (Err (error.Fault f)) o e = e
to_run c (Err error.Memory) o e = e

pub to_watch : {Q : Type 0} (c : Called Q) (r : Result Answer AnswerError) → IfOk r (λ a. IsWatchAnswer c.source c.net a.status a.text) → IfErr r (RunStops c.source c.net.faults c.threads) → AnswersTo Watch c r
to_watch c (Ok a) o e = o
to_watch c (Err (error.Fault f)) o e = e
to_watch c (Err error.Memory) o e = e

pub to_drive : {Q : Type 0} (n : ℕ) (c : Called Q) (r : Result Answer AnswerError) → IfOk r (λ a. IsDriveAnswer c.reporter.stamped c.source c.net.broken a.status a.text) → IfErr r (DriveStops c.source c.net.faults c.threads c.reporter.faults) → AnswersTo (Drive n) c r
to_drive n c (Ok a) o e = o
to_drive n c (Err (error.Fault f)) o e = e
to_drive n c (Err error.Memory) o e = e

-- ---- the source alone

-- what a command comes to that needs its source alone is the same in each call with that source
pub same_source : {Q : Type 0} (k : Command) (c : Called ℕ) (d : Called Q) (r : Result Answer AnswerError) → IsThreadless k → c.source ≡ d.source → AnswersTo k c r → AnswersTo k d r
same_source Rules c d (Ok a) t e h = subst (λ (s : SourceSeen). IsRulesAnswer s a.status a.text) e h
same_source Rules c d (Err (error.Fault f)) t e h = subst (λ (s : SourceSeen). StopsBy IsInputRefused s f) e h
same_source Rules c d (Err error.Memory) t e h = subst (λ (s : SourceSeen). IsSame s.faults) e h
same_source Trace c d (Ok a) t e h = subst (λ (s : SourceSeen). IsTraceAnswer s a.status a.text) e h
same_source Trace c d (Err (error.Fault f)) t e h = subst (λ (s : SourceSeen). StopsBy IsInputRefused s f) e h
same_source Trace c d (Err error.Memory) t e h = subst (λ (s : SourceSeen). IsSame s.faults) e h
same_source Simulate c d (Ok a) t e h = subst (λ (s : SourceSeen). IsSimulateAnswer s a.status a.text) e h
same_source Simulate c d (Err (error.Fault f)) t e h = subst (λ (s : SourceSeen). StopsBy IsSimulateRefused s f) e h
same_source Simulate c d (Err error.Memory) t e h = subst (λ (s : SourceSeen). IsSame s.faults) e h
same_source Equiv c d (Ok a) t e h = subst (λ (s : SourceSeen). IsEquivAnswer s a.status a.text) e h
same_source Equiv c d (Err (error.Fault f)) t e h = subst (λ (s : SourceSeen). StopsBy IsEquivRefused s f) e h
same_source Equiv c d (Err error.Memory) t e h = subst (λ (s : SourceSeen). IsSame s.faults) e h
same_source Audit c d (Ok a) t e h = subst (λ (s : SourceSeen). IsAuditAnswer s a.status a.text) e h
same_source Audit c d (Err (error.Fault f)) t e h = subst (λ (s : SourceSeen). StopsBy IsSimulateRefused s f) e h
same_source Audit c d (Err error.Memory) t e h = subst (λ (s : SourceSeen). IsSame s.faults) e h
same_source Run c d r t e h = absurd t
same_source Watch c d r t e h = absurd t
same_source (Drive n) c d r t e h = absurd t
same_source (Generate n) c d (Ok a) t e h = h
same_source (Generate n) c d (Err (error.Fault f)) t e h = absurd h
same_source (Generate n) c d (Err error.Memory) t e h = subst (λ (s : SourceSeen). IsSame s.faults) e h

-- ---- words

-- words that ask for no command ask for none of these
pub no_line : (Takes : Command → Type 0) (words : List (String Global)) → ¬ (IsCommandLine words) → ¬ (IsLine Takes words)
no_line Takes words n l = n (l.0, l.2)

no-threads : (k : Command) (words : List (String Global)) → IsThreaded k → Asks k words → ¬ (IsLine IsThreadless words)
no-threads k words needs asks l = needs (subst IsThreadless (one_command_asked l.0 k words l.2 asks) l.1)

-- without threads a run is no command, watched or not, and no drive is one
pub plain_by : {Q : Type 0} (k : Command) (c : Called Q) (r : Result Answer AnswerError) → Asks k c.words → (IsThreadless k → AnswersTo k c r) → (IsThreaded k → r ≡ Err (error.Fault fault.Usage)) → (¬ (IsThreadless k × IsReader k) → IsSame c.source.faults) → AnswersWords IsThreadless c r
plain_by Rules c r asks to run same = by Rules tt asks (to tt) (λ n. same (λ p. n p.1))
plain_by Trace c r asks to run same = by Trace tt asks (to tt) (λ n. same (λ p. n p.1))
plain_by Simulate c r asks to run same = by Simulate tt asks (to tt) (λ n. same (λ p. n p.1))
plain_by Equiv c r asks to run same = by Equiv tt asks (to tt) (λ n. same (λ p. n p.1))
plain_by Audit c r asks to run same = by Audit tt asks (to tt) (λ n. same (λ p. n p.1))
plain_by Run c r asks to run same = none (no-threads Run c.words (λ t. t) asks) (run (λ t. t)) (same (λ p. p.0))
plain_by Watch c r asks to run same = none (no-threads Watch c.words (λ t. t) asks) (run (λ t. t)) (same (λ p. p.0))
plain_by (Drive n) c r asks to run same = none (no-threads (Drive n) c.words (λ t. t) asks) (run (λ t. t)) (same (λ p. p.0))
plain_by (Generate n) c r asks to run same = by (Generate n) tt asks (to tt) (λ m. same (λ p. m p.1))

pub other_by : {Q : Type 0} (k : Command) (c : Called Q) (r : Result Answer AnswerError) → k ≢ Run → k ≢ Watch → ((n : ℕ) → k ≢ Drive n) → Asks k c.words → (IsThreadless k → AnswersTo k c r) → (¬ (IsThreadless k × IsReader k) → IsSame c.source.faults) → AnswersWords IsAny c r
other_by Rules c r other unseen less asks to same = by Rules tt asks (to tt) (λ n. same (λ p. n p.1))
other_by Trace c r other unseen less asks to same = by Trace tt asks (to tt) (λ n. same (λ p. n p.1))
other_by Simulate c r other unseen less asks to same = by Simulate tt asks (to tt) (λ n. same (λ p. n p.1))
other_by Equiv c r other unseen less asks to same = by Equiv tt asks (to tt) (λ n. same (λ p. n p.1))
other_by Audit c r other unseen less asks to same = by Audit tt asks (to tt) (λ n. same (λ p. n p.1))
other_by Run c r other unseen less asks to same = absurd (other refl)
other_by Watch c r other unseen less asks to same = absurd (unseen refl)
other_by (Drive n) c r other unseen less asks to same = absurd (less n refl)
other_by (Generate n) c r other unseen less asks to same = by (Generate n) tt asks (to tt) (λ m. same (λ p. m p.1))

pub run_by : {Q : Type 0} (c : Called Q) (r : Result Answer AnswerError) → Asks Run c.words → AnswersTo Run c r → AnswersWords IsAny c r
run_by c r asks to = by Run tt asks to (λ n. absurd (n tt))

pub watch_by : {Q : Type 0} (c : Called Q) (r : Result Answer AnswerError) → Asks Watch c.words → AnswersTo Watch c r → AnswersWords IsAny c r
watch_by c r asks to = by Watch tt asks to (λ n. absurd (n tt))

pub drive_by : {Q : Type 0} (n : ℕ) (c : Called Q) (r : Result Answer AnswerError) → Asks (Drive n) c.words → AnswersTo (Drive n) c r → AnswersWords IsAny c r
drive_by n c r asks to = by (Drive n) tt asks to (λ m. absurd (m tt))

-- ---- reports

as-report : (s d : Status) → s ≡ d → IsReport d → IsReport s
as-report s d is h = subst IsReport (sym is) h

report-status : (halts : Bool) → IsReport (report_status halts)
report-status true = tt
report-status false = tt

pub reports : {Q : Type 0} (k : Command) (c : Called Q) (s : Status) (text : List ℕ) → IsAnswer k c s text → IsReport s
reports Rules c s text a = as-report s status.Done a.status_is tt
reports Trace c s text a = as-report s status.Done a.status_is tt
reports Simulate c s text a = as-report s (report_status a.halts) a.status_is (report-status a.halts)
reports Equiv c s text a = as-report s status.Done a.status_is tt
reports Audit c s text a = as-report s (report_status a.halts) a.status_is (report-status a.halts)
reports Run c s text a = as-report s (report_status a.halts) a.status_is (report-status a.halts)
reports Watch c s text a = as-report s (report_status a.halts) a.status_is (report-status a.halts)
reports (Drive n) c s text a = as-report s (report_status a.halts) a.status_is (report-status a.halts)
reports (Generate n) c s text a = as-report s status.Done a.status_is tt

no-ok : (a : Answer) (e : AnswerError) (P : Type 0) → Ok a ≡ Err e → P
no-ok a e P is = absurd (cc)

-- an answer is a report
pub is_report : {Q : Type 0} (Takes : Command → Type 0) (c : Called Q) (r : Result Answer AnswerError) → AnswersWords Takes c r → IfOk r (λ a. IsReport a.status)
is_report Takes c (Ok a) (by k t asks to same) = reports k c a.status a.text to
is_report Takes c (Ok a) (none other is same) = no-ok a _ _ is
is_report Takes c (Ok a) (memory is same) = no-ok a _ _ is
is_report Takes c (Err e) h = tt
