-- A text has one outcome.
use Rattle.std.proofs.Common.{◌≡◌, ℕ, ◌+◌, inl, inr, Bool, true, false, List, [], ◌∷◌, take, sym, ap, ◌∙◌, subst}
use Rattle.netkat_parser.proofs.Unique.{text-one}
use Rattle.netkat_parser.proofs.Outcomes.{no-both, fault-one}
use Rattle.document_text.specs.Documents.{Outcome}
use Rattle.document_text.specs.States.{State, initial_state, with_policy}
use Rattle.document_text.specs.Steps.{Step, Next, Enters, Opens, Stops, step}
use Rattle.document_text.specs.Texts.{lines_of, words_of, is_end}
use Rattle.document_text.specs.Grammar.{Mode, Lines, Block, Does, Closes, Chosen, Goes, LacksEnd, Ends, IsFrom, IsReading, within_limit, most_bytes, line_start, refused_in}

-- what comes of going on in a mode is one outcome
abbrev IsOne : (Mode → Outcome → Type 0) → Type 0
IsOne Go = (m : Mode) (o o' : Outcome) → Go m o → Go m o' → o ≡ o'

does-one : (Go : Mode → Outcome → Type 0) (n : ℕ) (x : Step) (o o' : Outcome) → IsOne Go
    → Does (λ m. Go m o) n o x → Does (λ m. Go m o') n o' x → o ≡ o'
does-one Go n (Next s) o o' one h h' = one (Lines s) o o' h h'
does-one Go n (Enters p s) o o' one (inl h) (inl h') = one (Lines s) o o' h.1 h'.1
does-one Go n (Enters p s) o o' one (inl h) (inr h') = absurd (h'.0 h.0)
does-one Go n (Enters p s) o o' one (inr h) (inl h') = absurd (h.0 h'.0)
does-one Go n (Enters p s) o o' one (inr h) (inr h') = h.1 ∙ sym h'.1
does-one Go n (Opens s) o o' one h h' = one (Block s (n + 1) []) o o' h h'
does-one Go n (Stops f) o o' one h h' = h ∙ sym h'

closes-one : (Go : Mode → Outcome → Type 0) (s : State) (begin : ℕ) (text : List ℕ) (o o' : Outcome) → IsOne Go
    → Closes (λ m. Go m o) o s begin text → Closes (λ m. Go m o') o' s begin text → o ≡ o'
closes-one Go s begin text o o' one (inl h) (inl h') =
    one (Lines (with_policy s h'.0)) o o' (subst (λ p. Go (Lines (with_policy s p)) o) (text-one text h.0 h'.0 h.1 h'.1) h.2) h'.2
closes-one Go s begin text o o' one (inl h) (inr h') = absurd (no-both (line_start begin) text h.0 h'.0 h.1 h'.1)
closes-one Go s begin text o o' one (inr h) (inl h') = absurd (no-both (line_start begin) text h'.0 h.0 h'.1 h.1)
closes-one Go s begin text o o' one (inr h) (inr h') = h.2 ∙ ap refused_in (fault-one (line_start begin) text h.0 h'.0 h.1 h'.1) ∙ sym h'.2

chosen-one : (Go : Mode → Outcome → Type 0) (s : State) (begin : ℕ) (text line : List ℕ) (b : Bool) (o o' : Outcome) → IsOne Go
    → Chosen b (Closes (λ m. Go m o) o s begin text) (Go (Block s begin line) o) → Chosen b (Closes (λ m. Go m o') o' s begin text) (Go (Block s begin line) o') → o ≡ o'
chosen-one Go s begin text line true o o' one h h' = closes-one Go s begin text o o' one h h'
chosen-one Go s begin text line false o o' one h h' = one (Block s begin line) o o' h h'

goes-one : (Go : Mode → Outcome → Type 0) (n : ℕ) (m : Mode) (line : List ℕ) (o o' : Outcome) → IsOne Go
    → Goes (λ t. Go t o) n o m line → Goes (λ t. Go t o') n o' m line → o ≡ o'
goes-one Go n (Lines s) line o o' one h h' = does-one Go n (step s n (words_of line)) o o' one h h'
goes-one Go n (Block s begin text) line o o' one h h' = chosen-one Go s begin text _ (is_end (words_of line)) o o' one h h'

lacks-one : (n begin : ℕ) (text : List ℕ) (o o' : Outcome) → LacksEnd n begin text o → LacksEnd n begin text o' → o ≡ o'
lacks-one n begin text o o' (inl h) (inl h') = h.3 ∙ ap refused_in (fault-one (line_start begin) text h.0 h'.0 h.1 h'.1) ∙ sym h'.3
lacks-one n begin text o o' (inl h) (inr h') = absurd (h.2 (h'.0 h.0 h.1))
lacks-one n begin text o o' (inr h) (inl h') = absurd (h'.2 (h.0 h'.0 h'.1))
lacks-one n begin text o o' (inr h) (inr h') = h.1 ∙ sym h'.1

ends-one : (n : ℕ) (m : Mode) (o o' : Outcome) → Ends n o m → Ends n o' m → o ≡ o'
ends-one n (Lines s) o o' h h' = h ∙ sym h'
ends-one n (Block s begin text) o o' h h' = lacks-one n begin text o o' h h'

from-one : (ls : List (List ℕ)) (n : ℕ) (m : Mode) (o o' : Outcome) → IsFrom m n ls o → IsFrom m n ls o' → o ≡ o'
from-one [] n m o o' h h' = ends-one n m o o' h h'
from-one (l ∷ ls) n m o o' h h' = goes-one (λ t r. IsFrom t (n + 1) ls r) n m l o o' (λ t r r' k k'. from-one ls (n + 1) t r r' k k') h h'

pub reading-one : (text : List ℕ) (o o' : Outcome) → IsReading text o → IsReading text o' → o ≡ o'
reading-one text o o' h h' = h.2 ∙ ap (within_limit text) (from-one (lines_of (take (most_bytes + 1) text)) 1 (Lines initial_state) h.0 h'.0 h.1 h'.1) ∙ sym h'.2
