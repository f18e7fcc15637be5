-- What `nkctl equiv` answers: whether the two policies of a document give each well-shaped packet the same results.
use Rattle.std.specs.Prelude.{◌≡◌, ◌≢◌, ◌⊎◌, ℕ, List, [], ◌∷◌, length}
use Rattle.nk_values.specs.declared.fault.CompileFault.{CompileFault}
use Rattle.nk_syntax.specs.Terms.{Term}
use Rattle.history_meaning.specs.Plain.{IsPlain}
use Rattle.document_text.specs.Documents.{Doc}
use Rattle.document_text.specs.Grammar.{IsDocument}
use Rattle.equal_laws.specs.Equals.{HaveSameResults}
use Rattle.fdd_apart.specs.declared.finding.Difference.{Difference}
use Rattle.fdd_apart.specs.declared.finding.Side.{Side}
use Rattle.fdd_apart.specs.declared.finding.Side.TheVariants.{First, Second}
use Rattle.policy_equality.specs.Comparisons.{AreApartBy, HaveMeaning, HaveSameHistories, IsFaultOf}
use Rattle.value_text.specs.declared.fault.Fault.{Fault}
use Rattle.value_text.specs.declared.fault.Fault.TheVariants as fault
use Rattle.value_text.specs.Equality.{equal_text, apart_text}
use Rattle.program_answer.specs.declared.status.Status.{Status}
use Rattle.program_answer.specs.declared.status.Status.TheVariants.{Done}
use Rattle.program_answer.specs.Answers.{Reads}
use Rattle.program_answer.specs.Called.{SourceSeen}
use Rattle.program_answer.specs.Input.{IsTextRefusal}
use Rattle.program_answer.specs.Lines.{line_after}

-- the number of a policy
abbrev pub number_of : Side → ℕ
number_of First = 1
number_of Second = 2

-- ---- of two policies

-- Each well-shaped packet has the same results under both. If they are plain, it has the same histories in each
-- topology.
pub record AreEqual (p q : Term) : Type 0 where
  pub results : HaveSameResults p q
  pub histories : IsPlain p → IsPlain q → HaveSameHistories p q

-- The text says that they are equal, or shows a well-shaped packet and a result of it that just the policy of this
-- number gives.
pub data IsComparison (p q : Term) (text : List ℕ) : Type 0 where
  equal : AreEqual p q → text ≡ equal_text → IsComparison p q text
  apart : (x : Difference) → AreApartBy p q x → text ≡ apart_text x.packet x.output (number_of x.side) →
      IsComparison p q text

-- the first fault of the two, with the number of its policy
pub record IsPairFault (p q : Term) (f : Fault) : Type 0 where
  pub side : Side
  pub reason : CompileFault
  pub has : IsFaultOf side p q reason
  pub is : f ≡ fault.Compile (number_of side) reason

-- ---- of a document

-- the document has just these policies
abbrev pub HasTwo : Doc → Term → Term → Type 0
HasTwo d p q = d.policies ≡ p ∷ q ∷ []

-- two policies, neither with a `dup` or a deep star, and the text compares them
pub record IsEquivOf (d : Doc) (text : List ℕ) : Type 0 where
  pub first : Term
  pub second : Term
  pub two : HasTwo d first second
  pub meant : HaveMeaning first second
  pub compared : IsComparison first second text

-- the first fault of its two policies
pub record IsMeaningFault (d : Doc) (f : Fault) : Type 0 where
  pub first : Term
  pub second : Term
  pub two : HasTwo d first second
  pub of_both : IsPairFault first second f

-- it has not two policies, and the line after its last one has this number
pub record IsNumberFault (d : Doc) (after : ℕ) (f : Fault) : Type 0 where
  pub other : length d.policies ≢ 2
  pub is : f ≡ fault.NotTwo after

-- ---- of a source

-- The bytes hold a document with two policies that can be compared.
pub record IsComparable (xs : List ℕ) : Type 0 where
  pub document : Doc
  pub read : IsDocument xs document
  pub first : Term
  pub second : Term
  pub two : HasTwo document first second
  pub meant : HaveMeaning first second

-- The bytes hold a document, and the text compares its two policies.
pub record IsEquiv (xs text : List ℕ) : Type 0 where
  pub document : Doc
  pub read : IsDocument xs document
  pub compared : IsEquivOf document text

-- the document has not two policies
pub record IsNumberRefusal (xs : List ℕ) (f : Fault) : Type 0 where
  pub document : Doc
  pub read : IsDocument xs document
  pub number : IsNumberFault document (line_after xs) f

-- one of the two cannot be compared
pub record IsMeaningRefusal (xs : List ℕ) (f : Fault) : Type 0 where
  pub document : Doc
  pub read : IsDocument xs document
  pub meaning : IsMeaningFault document f

-- The first fault of the text, or else the number of policies, or else the first fault of the two.
abbrev pub IsEquivRefused : List ℕ → Fault → Type 0
IsEquivRefused xs f = IsTextRefusal xs f ⊎ (IsNumberRefusal xs f ⊎ IsMeaningRefusal xs f)

-- The source was read to its end, and the text compares the two policies of its document.
pub record IsEquivAnswer (source : SourceSeen) (status : Status) (text : List ℕ) : Type 0 where
  pub status_is : status ≡ Done
  pub read : Reads (λ xs. IsEquiv xs text) source
