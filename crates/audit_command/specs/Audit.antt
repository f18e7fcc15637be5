-- What `nkctl audit` answers: the report of a schedule, and how the tables of its last world differ from the planned
-- rows.
use Rattle.std.specs.Prelude.{◌≡◌, ℕ, zero, suc, Bool, List, ◌++◌, length, is_some}
use Rattle.document_text.specs.Documents.{Doc}
use Rattle.flow_audit.specs.declared.verdict.Verdict.{Verdict}
use Rattle.policy_rows.specs.declared.version.Version.{Version}
use Rattle.world_core.specs.declared.event.Event.{Event}
use Rattle.world_core.specs.Worlds.{WorldValue}
use Rattle.table_audit.specs.Audits.{IsAuditAt}
use Rattle.report_text.specs.Reports.{IsWorldReport}
use Rattle.program_answer.specs.declared.status.Status.{Status}
use Rattle.program_answer.specs.Answers.{Reads}
use Rattle.program_answer.specs.Called.{SourceSeen}
use Rattle.program_answer.specs.Input.{IsAcceptedAs}
use Rattle.program_answer.specs.Statuses.{report_status}
use Rattle.plain_commands.specs.Simulate.{IsOutcomeOf}
use Rattle.audit_command.specs.Lines.{audit_line}

-- the line of the switch at a place, by the verdict on its table
pub record IsAuditLine (w : WorldValue) (place : ℕ) (text : List ℕ) : Type 0 where
  pub verdict : Verdict
  pub audit : IsAuditAt w place verdict
  pub is : text ≡ audit_line audit.site.sw verdict

-- the text is the report and then the lines of the first switches
abbrev pub HasAudits : WorldValue → ℕ → List ℕ → List ℕ → Type 0
HasAudits w zero report text = text ≡ report
HasAudits w (suc place) report text = (before : List ℕ) × (here : List ℕ) × HasAudits w place report before ×
    IsAuditLine w place here × (text ≡ before ++ here)

-- The text is the report of the events of the whole schedule and of the world then, and the lines of all switches
-- there; `halts` says whether the updates are halted then.
pub record IsAuditOf (halts : Bool) (d : Doc) (versions : List Version) (text : List ℕ) : Type 0 where
  pub events : List Event
  pub world : WorldValue
  pub outcome : IsOutcomeOf d versions events world
  pub ends : is_some world.fleet.control.halt ≡ halts
  pub report : List ℕ
  pub report_is : IsWorldReport world events report
  pub text_is : HasAudits world (length world.topology.switches) report text

-- ---- of a source

-- The bytes are accepted, and the text is the report and the audits of their whole schedule.
pub record IsAudit (halts : Bool) (xs text : List ℕ) : Type 0 where
  pub document : Doc
  pub versions : List Version
  pub accepted : IsAcceptedAs xs document versions
  pub audit : IsAuditOf halts document versions text

-- The source was read to its end, and the text is the report and the audits of its schedule: Halted if the updates
-- are halted then, and Done if not.
pub record IsAuditAnswer (source : SourceSeen) (status : Status) (text : List ℕ) : Type 0 where
  pub halts : Bool
  pub status_is : status ≡ report_status halts
  pub read : Reads (λ xs. IsAudit halts xs text) source
