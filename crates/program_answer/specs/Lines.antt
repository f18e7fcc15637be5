-- The lines of a text, and of one that comes in pieces.
use Rattle.std.specs.Prelude.{◌≡◌, ℕ, zero, suc, ◌+◌, Bool, true, false, List, ◌++◌, length}
use Rattle.document_text.specs.Texts.{lines_of}
use Rattle.program_answer.specs.declared.lines.LineCount.{LineCount}

-- the number of the line after the last one
abbrev pub line_after : List ℕ → ℕ
line_after text = length (lines_of text) + 1

-- how many lines there are, where the first of n goes on from bytes before it
abbrev pub going_on : Bool → ℕ → ℕ
going_on false n = n
going_on true zero = 1
going_on true (suc n) = suc n

-- Whatever text follows, so many lines are those that had ended, and the others are those of what follows.
abbrev pub Counts : LineCount → List ℕ → Type 0
Counts c text = (rest : List ℕ) →
    length (lines_of (text ++ rest)) ≡ c.ended + going_on c.goes_on (length (lines_of rest))
