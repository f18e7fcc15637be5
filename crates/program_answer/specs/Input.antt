-- Documents and the versions of their policies, as they are read of a source.
use Rattle.std.specs.Prelude.{◌≡◌, ◌≤◌, ◌<◌, ◌⊎◌, ℕ, List, length, map, Option}
use Rattle.std.specs.Io.KnownBytes.{Consumes, IsAtEnd}
use Rattle.nk_syntax.specs.Terms.{Term}
use Rattle.nk_syntax.specs.Views.{term_of}
use Rattle.topology_model.specs.Layouts.{Layout}
use Rattle.document_text.specs.declared.doc_reader.DocReader.{DocReader}
use Rattle.document_text.specs.declared.document.Document.{Document}
use Rattle.document_text.specs.declared.document.Settings.{Settings}
use Rattle.document_text.specs.declared.fault.DocFault.{DocFault}
use Rattle.document_text.specs.Documents.{Doc}
use Rattle.document_text.specs.Feeding.{StandsFor}
use Rattle.document_text.specs.Grammar.{IsDocument, HasDocFault}
use Rattle.policy_rows.specs.declared.version.Version.{Version}
use Rattle.report_text.specs.Fault.{Fault}
use Rattle.report_text.specs.Fault.TheVariants.{Line}
use Rattle.program_answer.specs.declared.answer.AnswerError.{AnswerError}
use Rattle.program_answer.specs.declared.answer.AnswerError.TheVariants as error
use Rattle.program_answer.specs.Lines.{Counts, line_after}
use Rattle.program_answer.specs.declared.lines.LineCount.{LineCount}
use Rattle.program_answer.specs.Versions.{AreVersions, IsPolicyFault, IsFirstPolicyFault}

-- ---- what is accepted, and what is refused

-- the document, and a version for each of its policies
pub record IsAcceptedAs (xs : List ℕ) (d : Doc) (vs : List Version) : Type 0 where
  pub document : IsDocument xs d
  pub versions : AreVersions d.layout d.settings 0 d.policies vs

-- The bytes hold a document whose policies all have rows.
pub record IsAccepted (xs : List ℕ) : Type 0 where
  pub document : Doc
  pub versions : List Version
  pub is : IsAcceptedAs xs document versions

-- the fault with its place
abbrev pub placed_fault : DocFault → Fault
placed_fault f = Line f.line f.column f.fault

-- the first fault of the text
pub record IsTextRefusal (xs : List ℕ) (f : Fault) : Type 0 where
  pub text_fault : DocFault
  pub has : HasDocFault xs text_fault
  pub is : f ≡ placed_fault text_fault

-- the fault of the first policy that has one
pub record IsPolicyRefusal (xs : List ℕ) (f : Fault) : Type 0 where
  pub document : Doc
  pub read : IsDocument xs document
  pub first : IsFirstPolicyFault document.layout document.settings document.policies f

abbrev pub IsInputRefused : List ℕ → Fault → Type 0
IsInputRefused xs f = IsTextRefusal xs f ⊎ IsPolicyRefusal xs f

-- ---- as the calls tell it

-- the bytes are read as the document, and the line after their last one has this number
pub record IsReadAs (xs : List ℕ) (d : Doc) (after : ℕ) : Type 0 where
  pub document : IsDocument xs d
  pub after_is : after ≡ line_after xs

-- The reader stands for the bytes that were taken of a source, which are all of them or 4,194,305, and their lines were
-- counted.
pub record Feeds (old new : Option (List ℕ)) (r : DocReader) (c : LineCount) : Type 0 where
  pub bytes : List ℕ
  pub taken : Consumes old new bytes
  pub within : length bytes ≤ 4194305
  pub ended : length bytes < 4194305 → IsAtEnd new
  pub stands : StandsFor r bytes
  pub counts : Counts c bytes
  pub few : c.ended ≤ 4194305

abbrev pub policies_of : Document → List Term
policies_of d = map term_of d.policies.items

-- the fault of the policy after k others; nothing is said of memory
abbrev pub TellsFault : Layout → Settings → ℕ → Term → AnswerError → Type 0
TellsFault t s k p error.Memory = Unit {0}
TellsFault t s k p (error.Fault f) = IsPolicyFault t s k p f

-- the fault of the first policy that has one; nothing is said of memory
abbrev pub TellsFirst : Layout → Settings → List Term → AnswerError → Type 0
TellsFirst t s ps error.Memory = Unit {0}
TellsFirst t s ps (error.Fault f) = IsFirstPolicyFault t s ps f
