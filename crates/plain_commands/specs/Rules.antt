-- What `nkctl rules` answers.
use Rattle.std.specs.Prelude.{◌≡◌, ℕ, List}
use Rattle.document_text.specs.Documents.{Doc}
use Rattle.policy_rows.specs.declared.version.Version.{Version}
use Rattle.report_text.specs.Rules.{rules_text}
use Rattle.program_answer.specs.declared.status.Status.{Status}
use Rattle.program_answer.specs.declared.status.Status.TheVariants.{Done}
use Rattle.program_answer.specs.Answers.{Reads}
use Rattle.program_answer.specs.Called.{SourceSeen}
use Rattle.program_answer.specs.Input.{IsAcceptedAs}

-- the rows of all versions
pub record IsRules (xs text : List ℕ) : Type 0 where
  pub document : Doc
  pub versions : List Version
  pub accepted : IsAcceptedAs xs document versions
  pub text_is : text ≡ rules_text versions document.layout

-- The source was read to its end, and the text has the rows of its document.
pub record IsRulesAnswer (source : SourceSeen) (status : Status) (text : List ℕ) : Type 0 where
  pub status_is : status ≡ Done
  pub read : Reads (λ xs. IsRules xs text) source
