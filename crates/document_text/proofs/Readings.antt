-- From lines to whole texts.
use Rattle.std.proofs.Common.{◌≡◌, ℕ, ◌+◌, ◌<◌, ◌≤◌, Bool, true, false, cond, nat_le, nat_lt, List, length, take, Result, Ok, Err, refl, sym, ◌∙◌, subst, arith}
use Rattle.std.proofs.lemmas.Bool.Decides.{nat_tests}
use Rattle.nk_values.specs.declared.text_fault.TextFault.TheVariants.{Limit}
use Rattle.document_text.specs.declared.document.Document.{Document}
use Rattle.document_text.specs.declared.fault.DocFault.{DocFault}
use Rattle.document_text.specs.declared.fault.DocumentError.{DocumentError}
use Rattle.document_text.specs.declared.fault.DocumentError.TheVariants.{Fault, Memory}
use Rattle.document_text.specs.Documents.{Outcome, Accepted, Refused}
use Rattle.document_text.specs.States.{initial_state}
use Rattle.document_text.specs.Texts.{lines_of}
use Rattle.document_text.specs.Grammar.{Lines, IsFrom, IsReading, most_bytes, line_behind, cut_off, within_limit, refused_at}
use Rattle.document_text.specs.Answers.{AnswersDocument, IsAnswer, CutsText, limit_at, doc_of}
use Rattle.document_text.proofs.Unique.{reading-one}

le-true : (m n : ℕ) → m ≤ n → nat_le m n ≡ true
le-true m n h = grind (arith, nat_tests)

le-false : (m n : ℕ) → n < m → nat_le m n ≡ false
le-false m n h = grind (arith, nat_tests)

within-small : (text : List ℕ) (o : Outcome) → length text ≤ most_bytes → o ≡ within_limit text o
within-small text o h = rw (le-true (length text) most_bytes h) refl

within-large : (text : List ℕ) (o : Outcome) → most_bytes < length text → cut_off (line_behind (take most_bytes text)) o ≡ within_limit text o
within-large text o h = rw (le-false (length text) most_bytes h) refl

pub reading-small : (text : List ℕ) (r : Result Document DocumentError) → length text ≤ most_bytes
    → AnswersDocument (IsFrom (Lines initial_state) 1 (lines_of (take (most_bytes + 1) text))) r → AnswersDocument (IsReading text) r
reading-small text (Ok d) h k = (Accepted (doc_of d), k, within-small text (Accepted (doc_of d)) h)
reading-small text (Err (Fault f)) h k = (Refused f, k, within-small text (Refused f) h)
reading-small text (Err Memory) h k = tt

by-line : (n : ℕ) (f : DocFault) (b : Bool) → Refused (cond b f (limit_at n)) ≡ cond b (Refused f) (refused_at n Limit)
by-line n f true = refl
by-line n f false = refl

pub reading-large : (text : List ℕ) (w : Result Document DocumentError) (e : DocumentError) → most_bytes < length text
    → AnswersDocument (IsFrom (Lines initial_state) 1 (lines_of (take (most_bytes + 1) text))) w → CutsText (line_behind (take most_bytes text)) w e → AnswersDocument (IsReading text) (Err e)
reading-large text (Ok d) e h k c =
    subst (λ x. AnswersDocument (IsReading text) (Err x)) (sym c) (Accepted (doc_of d), k, within-large text (Accepted (doc_of d)) h)
reading-large text (Err (Fault f)) e h k c =
    let n = line_behind (take most_bytes text) in
    subst (λ x. AnswersDocument (IsReading text) (Err x)) (sym c) (Refused f, k, by-line n f (nat_lt f.line n) ∙ within-large text (Refused f) h)
reading-large text (Err Memory) e h k c = subst (λ x. AnswersDocument (IsReading text) (Err x)) (sym c) tt

pub answer-one : (text : List ℕ) (r : Result Document DocumentError) → AnswersDocument (IsReading text) r → (o : Outcome) → IsReading text o → IsAnswer o r
answer-one text (Ok d) h o k = reading-one text o (Accepted (doc_of d)) k h
answer-one text (Err (Fault f)) h o k = reading-one text o (Refused f) k h
answer-one text (Err Memory) h o k = tt
