-- Audits, as the calls tell them.
use Rattle.std.proofs.Common.{◌≡◌, ℕ, suc, ◌+◌, List, ◌++◌, refl, sym, ◌∙◌, ap, subst, Result, Ok, Err, IfOk, arith}
use Rattle.topology_model.specs.declared.line.DeclaredSwitch.{DeclaredSwitch}
use Rattle.document_text.specs.declared.document.Document.{Document}
use Rattle.document_text.specs.Answers.{doc_of}
use Rattle.policy_rows.specs.declared.version.Version.{Version}
use Rattle.flow_audit.specs.declared.verdict.Verdict.{Verdict}
use Rattle.world_core.specs.Worlds.{WorldValue}
use Rattle.table_audit.specs.Audits.{IsAuditAt}
use Rattle.program_answer.specs.declared.answer.Answer.{Answer}
use Rattle.program_answer.specs.declared.answer.AnswerError.{AnswerError}
use Rattle.program_answer.specs.Answers.{Reads}
use Rattle.program_answer.specs.Called.{SourceSeen}
use Rattle.program_answer.specs.Input.{IsAcceptedAs}
use Rattle.program_answer.proofs.Stopping.{reads_more}
use Rattle.audit_command.specs.Lines.{audit_line}
use Rattle.audit_command.specs.Audit.{HasAudits, IsAuditAnswer}
use Rattle.audit_command.specs.Told.{IsAuditedAs}

-- one switch more
pub audits-more : (w : WorldValue) (place : ℕ) (report before text : List ℕ) (site : DeclaredSwitch) (v : Verdict) → HasAudits w place report before → (a : IsAuditAt w place v) → a.site ≡ site → text ≡ before ++ audit_line site.sw v → HasAudits w (place + 1) report text
audits-more w place report before text site v h a same is =
    let next : suc place ≡ place + 1 = omega arith in
    subst (λ (n : ℕ). HasAudits w n report text) next (before, audit_line a.site.sw v, h, record { verdict = v; audit = a; is = refl }, is ∙ ap (λ (s : DeclaredSwitch). before ++ audit_line s.sw v) (sym same))

-- of a source
pub audit_answers : (s : SourceSeen) (d : Document) (versions : List Version) (r : Result Answer AnswerError) → Reads (λ xs. IsAcceptedAs xs (doc_of d) versions) s → IfOk r (IsAuditedAs d versions) → IfOk r (λ a. IsAuditAnswer s a.status a.text)
audit_answers s d versions (Ok a) read h = record {
  halts = h.halts;
  status_is = h.status;
  read = reads_more _ _ s (λ xs accepted. record { document = doc_of d; versions = versions; accepted = accepted; audit = h.audit }) read;
}
audit_answers s d versions (Err x) read h = tt
