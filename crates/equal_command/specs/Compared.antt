-- What the calls of a comparison tell of their document.
use Rattle.std.specs.Prelude.{◌≡◌, ◌⊎◌, ℕ, List, Option, Some, None}
use Rattle.nk_syntax.specs.Terms.{Term}
use Rattle.document_text.specs.Documents.{Doc}
use Rattle.fdd_apart.specs.declared.finding.Difference.{Difference}
use Rattle.policy_equality.specs.Comparisons.{HaveMeaning}
use Rattle.value_text.specs.Equality.{equal_text, apart_text}
use Rattle.program_answer.specs.declared.answer.Answer.{Answer}
use Rattle.program_answer.specs.declared.answer.AnswerError.{AnswerError}
use Rattle.program_answer.specs.declared.answer.AnswerError.TheVariants as error
use Rattle.program_answer.specs.declared.status.Status.TheVariants.{Done}
use Rattle.equal_command.specs.Equiv.{IsComparison, IsEquivOf, IsMeaningFault, IsNumberFault, IsPairFault, number_of}

-- the line of what was found
abbrev pub IsTextOf : Option Difference → List ℕ → Type 0
IsTextOf None text = text ≡ equal_text
IsTextOf (Some x) text = text ≡ apart_text x.packet x.output (number_of x.side)

-- the comparison of two policies
pub record IsComparedAs (p q : Term) (a : Answer) : Type 0 where
  pub status : a.status ≡ Done
  pub meant : HaveMeaning p q
  pub compared : IsComparison p q a.text

-- nothing is said of memory
abbrev pub TellsPairFault : Term → Term → AnswerError → Type 0
TellsPairFault p q error.Memory = Unit {0}
TellsPairFault p q (error.Fault f) = IsPairFault p q f

-- the comparison of the two policies of a document
pub record IsEquivTold (d : Doc) (a : Answer) : Type 0 where
  pub status : a.status ≡ Done
  pub compared : IsEquivOf d a.text

-- why there is none; nothing is said of memory
abbrev pub TellsEquivFault : Doc → ℕ → AnswerError → Type 0
TellsEquivFault d after error.Memory = Unit {0}
TellsEquivFault d after (error.Fault f) = IsNumberFault d after f ⊎ IsMeaningFault d f
