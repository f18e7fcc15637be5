-- The grammar of documents, with the first fault: line by line, from the first one on.
use Rattle.std.specs.Prelude.{◌≡◌, ◌⊎◌, ℕ, Bool, true, false, not, ◌+◌, ◌==◌, nat_le, nat_lt, List, [], ◌∷◌, ◌++◌}
use Rattle.std.specs.Prelude.{length, take, count_by, if◌then◌else◌}
use Rattle.nk_values.specs.declared.text_fault.TextFault.{TextFault}
use Rattle.nk_values.specs.declared.text_fault.TextFault.TheVariants.{BadLine, Limit, NoEdge, NoPolicy}
use Rattle.nk_values.specs.Packets.{IsWellShaped}
use Rattle.nk_syntax.specs.Terms.{Term}
use Rattle.netkat_parser.specs.declared.fault.Position.{Position}
use Rattle.netkat_parser.specs.declared.fault.ParseFault.{ParseFault}
use Rattle.netkat_parser.specs.Grammar.{IsText, Where}
use Rattle.netkat_parser.specs.Places.{HasFault, position_after}
use Rattle.document_text.specs.declared.fault.DocFault.{DocFault}
use Rattle.document_text.specs.Documents.{Doc, Outcome, Accepted, Refused}
use Rattle.document_text.specs.States.{State, initial_state, is_empty, has_edge, with_policy, doc_of_state}
use Rattle.document_text.specs.Steps.{Step, Next, Enters, Opens, Stops, step}
use Rattle.document_text.specs.Texts.{lines_of, words_of, is_end}

-- Where reading stands: at a line of the document, or in a policy's text, which began at a line and has come this far.
pub data Mode : Type 0 where
  Lines : State → Mode
  Block : State → ℕ → List ℕ → Mode

-- refused at a line
abbrev pub refused_at : ℕ → TextFault → Outcome
refused_at n f = Refused (record { fault = f; line = n; column = 1 })

-- refused inside a policy's text
abbrev pub refused_in : ParseFault → Outcome
refused_in f = Refused (record { fault = f.fault; line = f.line; column = f.column })

-- the place at which a line begins
abbrev pub line_start : ℕ → Position
line_start n = record { line = n; column = 1 }

-- What a line comes to, where `Go m` is what comes of it if reading goes on in the mode m.
abbrev pub Does : (Mode → Type 0) → ℕ → Outcome → Step → Type 0
Does Go n o (Next s) = Go (Lines s)
Does Go n o (Enters p s) = Where (IsWellShaped p.packet) (Go (Lines s)) (o ≡ refused_at n BadLine)
Does Go n o (Opens s) = Go (Block s (n + 1) [])
Does Go n o (Stops f) = o ≡ refused_at n f

-- the policy of a text, or its first fault
abbrev pub Closes : (Mode → Type 0) → Outcome → State → ℕ → List ℕ → Type 0
Closes Go o s begin text =
    ((p : Term) × IsText text p × Go (Lines (with_policy s p)))
    ⊎ ((f : ParseFault) × HasFault (line_start begin) text f × (o ≡ refused_in f))

-- the one where the test holds, the other where it does not
abbrev pub Chosen : Bool → Type 0 → Type 0 → Type 0
Chosen true A B = A
Chosen false A B = B

-- a line in each mode; the line with the one word `end` ends a policy's text
abbrev pub Goes : (Mode → Type 0) → ℕ → Outcome → Mode → List ℕ → Type 0
Goes Go n o (Lines s) line = Does Go n o (step s n (words_of line))
Goes Go n o (Block s begin text) line =
    Chosen (is_end (words_of line)) (Closes Go o s begin text) (Go (Block s begin (text ++ line)))

-- the document is whole after its last line
abbrev pub finished : State → ℕ → Outcome
finished s n =
    if s.inside then refused_at n BadLine else
    if not (has_edge s.layout) then refused_at n NoEdge else
    if is_empty s.policies then refused_at n NoPolicy else Accepted (doc_of_state s)

-- the place of the fault is after the text
abbrev pub IsBehind : ℕ → List ℕ → ParseFault → Type 0
IsBehind begin text f = position_after (line_start begin) text ≡ record { line = f.line; column = f.column }

-- The text of a policy lacks its `end` line, unless it has a fault before.
abbrev pub LacksEnd : ℕ → ℕ → List ℕ → Outcome → Type 0
LacksEnd n begin text o =
    ((f : ParseFault) × HasFault (line_start begin) text f × (IsBehind begin text f → ⊥) × (o ≡ refused_in f))
    ⊎ (((f : ParseFault) → HasFault (line_start begin) text f → IsBehind begin text f) × (o ≡ refused_at n BadLine))

-- after the last line
abbrev pub Ends : ℕ → Outcome → Mode → Type 0
Ends n o (Lines s) = o ≡ finished s n
Ends n o (Block s begin text) = LacksEnd n begin text o

-- What comes of the lines from the one with this number on.
abbrev pub IsFrom : Mode → ℕ → List (List ℕ) → Outcome → Type 0
IsFrom m n [] o = Ends n o m
IsFrom m n (line ∷ lines) o = Goes (λ t. IsFrom t (n + 1) lines o) n o m line

-- the most bytes that a document has
abbrev pub most_bytes : ℕ
most_bytes = 4194304

-- the number of the line of the byte after these
abbrev pub line_behind : List ℕ → ℕ
line_behind front = count_by (λ b. b == 10) front + 1

-- a fault on a line before this one stands, and else the text has too many bytes
abbrev pub cut_off : ℕ → Outcome → Outcome
cut_off n (Accepted d) = refused_at n Limit
cut_off n (Refused f) = if nat_lt f.line n then Refused f else refused_at n Limit

abbrev pub within_limit : List ℕ → Outcome → Outcome
within_limit text o = if nat_le (length text) most_bytes then o else cut_off (line_behind (take most_bytes text)) o

-- What a text is. Bytes after the first one that is too many don't count.
abbrev pub IsReading : List ℕ → Outcome → Type 0
IsReading text o = (whole : Outcome) × IsFrom (Lines initial_state) 1 (lines_of (take (most_bytes + 1) text)) whole ×
    (o ≡ within_limit text whole)

-- the text is read as the document; it has this first fault
abbrev pub IsDocument : List ℕ → Doc → Type 0
IsDocument text d = IsReading text (Accepted d)

abbrev pub HasDocFault : List ℕ → DocFault → Type 0
HasDocFault text f = IsReading text (Refused f)
