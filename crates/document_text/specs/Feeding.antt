-- Documents that come in pieces.
use Rattle.std.specs.Prelude.{◌≡◌, ℕ, zero, suc, ◌+◌, ◌*◌, ◌==◌, Bool, false, not, ◌||◌, List, [], ◌∷◌, ◌++◌, length}
use Rattle.std.specs.Prelude.{take, drop}
use Rattle.netkat_parser.specs.declared.fault.Position.{Position}
use Rattle.netkat_parser.specs.declared.feeding.PolicyReader.{PolicyReader}
use Rattle.netkat_parser.specs.Cuts.{EndsAt}
use Rattle.netkat_parser.specs.Places.{position_after}
use Rattle.netkat_parser.specs.Readers as policy
use Rattle.document_text.specs.declared.doc_reader.DocReader.{DocReader}
use Rattle.document_text.specs.declared.doc_reader.Spot.{Spot}
use Rattle.document_text.specs.declared.doc_reader.Spot.TheVariants as spot
use Rattle.document_text.specs.Answers.{state_of}
use Rattle.document_text.specs.Documents.{Outcome, Refused}
use Rattle.document_text.specs.Grammar.{Lines, Block, Closes, IsFrom, line_start, line_behind, most_bytes}
use Rattle.document_text.specs.States.{State, initial_state}
use Rattle.document_text.specs.Texts.{first_len, lines_of}

-- ---- what comes of a text from a spot on

-- What comes of a text from a spot on, at a state and on the line with this number, where the policy's text so far is
-- `front`. Inside of a line, the text begins with the rest of that line.
abbrev pub ComesAt : Spot → State → ℕ → List ℕ → List ℕ → Outcome → Type 0
ComesAt spot.Line s n front text o = IsFrom (Lines s) n (lines_of text) o
ComesAt (spot.Text begin) s n front text o = IsFrom (Block s begin front) n (lines_of text) o
ComesAt (spot.Inside begin) s n front text o =
    IsFrom (Block s begin (front ++ take (first_len text) text)) (n + 1) (lines_of (drop (first_len text) text)) o
ComesAt (spot.Closing begin) s n front text o = Closes (λ m. IsFrom m n (lines_of text) o) o s begin front
ComesAt (spot.Refused f) s n front text o = o ≡ Refused f

-- what comes of the text that follows what a reader was fed
abbrev pub Comes : DocReader → List ℕ → List ℕ → Outcome → Type 0
Comes r front rest o = ComesAt r.spot (state_of r.reader) r.line front (r.pending.items ++ rest) o

-- the reader of policies stands for the policy's text so far, after which the place is
abbrev pub StandsIn : ℕ → PolicyReader → Position → List ℕ → Type 0
StandsIn begin p at front = policy.StandsFor (line_start begin) p front × (position_after (line_start begin) front ≡ at)

abbrev pub HoldsAt : Spot → PolicyReader → Position → List ℕ → Type 0
HoldsAt (spot.Text begin) p at front = StandsIn begin p at front
HoldsAt (spot.Inside begin) p at front = StandsIn begin p at front
HoldsAt (spot.Closing begin) p at front = policy.EndsFor (line_start begin) p front
HoldsAt _ p at front = Unit {0}

abbrev pub HoldsBytes : DocReader → List ℕ → Type 0
HoldsBytes r front = HoldsAt r.spot r.policy r.behind front

-- ---- the text that a reader stands for

-- the bytes of a text that count
abbrev pub counted : List ℕ → List ℕ
counted text = take (most_bytes + 1) text

-- How many bytes of the text count is known, and the line of the byte after those that a document may have; and
-- whatever may follow, what comes of it after what was read is what the grammar gives of the text with it. At the end
-- nothing may follow.
pub record StandsBy (end : Bool) (r : DocReader) (text : List ℕ) : Type 0 where
  pub fed : r.fed ≡ length (counted text)
  pub row : r.row ≡ line_behind (take most_bytes text)
  pub front : List ℕ
  pub holds : HoldsBytes r front
  pub goes : (rest : List ℕ) (o : Outcome) → EndsAt end rest → Comes r front rest o →
      IsFrom (Lines initial_state) 1 (lines_of (counted text ++ rest)) o

-- The reader stands for a text.
abbrev pub StandsFor : DocReader → List ℕ → Type 0
StandsFor r text = StandsBy false r text

-- ---- from one reader to another

-- What comes of any text after the one comes of it after the other too. At the end nothing may follow.
pub record Reaches (end : Bool) (old new : DocReader) : Type 0 where
  pub fed : new.fed ≡ old.fed
  pub row : new.row ≡ old.row
  pub goes : (front : List ℕ) → HoldsBytes old front → (after : List ℕ) × HoldsBytes new after
      × ((rest : List ℕ) (o : Outcome) → EndsAt end rest → Comes new after rest o → Comes old front rest o)

-- a policy is to be made
abbrev pub closing : Spot → ℕ
closing (spot.Closing begin) = 1
closing _ = 0

-- what is left to be done, as a number that falls
abbrev pub left : DocReader → ℕ
left r = 2 * length r.pending.items + closing r.spot

-- nothing is left to be done
pub record IsThrough (r : DocReader) : Type 0 where
  pub pending : r.pending.items ≡ []
  pub closed : closing r.spot ≡ 0

-- the first line has so many bytes, however the text goes on
abbrev pub IsLine : Bool → List ℕ → ℕ → Type 0
IsLine end text n = (rest : List ℕ) → EndsAt end rest → first_len (text ++ rest) ≡ n

-- the text has no line that ends
abbrev pub IsPiece : List ℕ → Type 0
IsPiece text = (rest : List ℕ) → first_len (text ++ rest) ≡ length text + first_len rest

-- another byte than this one stands at a place of a word
abbrev pub differs : List ℕ → ℕ → ℕ → Bool
differs [] place byte = false
differs (x ∷ xs) zero byte = not (x == byte)
differs (x ∷ xs) (suc place) byte = differs xs place byte

-- some of the first three bytes is none of `end`
abbrev pub is_other : List ℕ → Bool
is_other word = differs word 0 101 || differs word 1 110 || differs word 2 100

-- all but what the lines have declared is as it was
pub record KeepsAll (old new : DocReader) : Type 0 where
  pub spot : new.spot ≡ old.spot
  pub line : new.line ≡ old.line
  pub policy : new.policy ≡ old.policy
  pub behind : new.behind ≡ old.behind
  pub pending : new.pending ≡ old.pending
  pub fed : new.fed ≡ old.fed
  pub row : new.row ≡ old.row

-- all that is no policy's is as it was
pub record KeepsLine (old new : DocReader) : Type 0 where
  pub reader : new.reader ≡ old.reader
  pub line : new.line ≡ old.line
  pub pending : new.pending ≡ old.pending
  pub fed : new.fed ≡ old.fed
  pub row : new.row ≡ old.row

-- the reader is at the same spot
pub record KeepsSpot (old new : DocReader) : Type 0 where
  pub reader : new.reader ≡ old.reader
  pub spot : new.spot ≡ old.spot
  pub line : new.line ≡ old.line
  pub fed : new.fed ≡ old.fed
  pub row : new.row ≡ old.row

-- the first bytes that were pending stand after the policy's text
pub record HandsBack (len : ℕ) (old new : DocReader) : Type 0 where
  pub pending : new.pending.items ≡ drop len old.pending.items
  pub stands : (begin : ℕ) (front : List ℕ) → StandsIn begin old.policy old.behind front →
      StandsIn begin new.policy new.behind (front ++ take len old.pending.items)

-- nothing more of the policy's text was read
pub record GivesNothing (old new : DocReader) : Type 0 where
  pub pending : new.pending ≡ old.pending
  pub stands : (begin : ℕ) (front : List ℕ) → StandsIn begin old.policy old.behind front →
      StandsIn begin new.policy new.behind front
