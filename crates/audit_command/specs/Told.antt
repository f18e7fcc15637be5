-- What the calls of an audit tell of their document.
use Rattle.std.specs.Prelude.{◌≡◌, ℕ, Bool, List, length, is_some}
use Rattle.document_text.specs.declared.document.Document.{Document}
use Rattle.document_text.specs.Answers.{doc_of}
use Rattle.policy_rows.specs.declared.version.Version.{Version}
use Rattle.program_answer.specs.declared.answer.Answer.{Answer}
use Rattle.program_answer.specs.Statuses.{report_status}
use Rattle.report_text.specs.Reports.{IsWorldReport}
use Rattle.world_core.specs.declared.event.Event.{Event}
use Rattle.world_core.specs.Worlds.{WorldValue}
use Rattle.audit_command.specs.Audit.{HasAudits, IsAuditOf}

-- the report and the audits of the whole schedule, with the status by how it ends
pub record IsAuditedAs (d : Document) (versions : List Version) (a : Answer) : Type 0 where
  pub halts : Bool
  pub status : a.status ≡ report_status halts
  pub audit : IsAuditOf halts (doc_of d) versions a.text

-- the report of these events and of the world then, with its audits, and the status by whether the updates are halted
pub record AreAuditsOf (w : WorldValue) (events : List Event) (a : Answer) : Type 0 where
  pub status : a.status ≡ report_status (is_some w.fleet.control.halt)
  pub report : List ℕ
  pub report_is : IsWorldReport w events report
  pub text_is : HasAudits w (length w.topology.switches) report a.text
