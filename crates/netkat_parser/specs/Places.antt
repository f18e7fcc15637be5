-- Lines and columns, both from 1, columns in bytes.
use Rattle.std.specs.Prelude.{◌≡◌, ℕ, ◌+◌, ◌==◌, List, [], ◌∷◌, ◌++◌, if◌then◌else◌}
use Rattle.netkat_parser.specs.declared.fault.Position.{Position}
use Rattle.netkat_parser.specs.declared.fault.ParseFault.{ParseFault}
use Rattle.netkat_parser.specs.Grammar.{Bad, IsReading}

-- the position of the byte after one; 10 is LF
abbrev pub next_position : Position → ℕ → Position
next_position p b = if b ==
    10 then record { line = p.line + 1; column = 1 } else record { line = p.line; column = p.column + 1 }

-- the position after a text that begins at a position
abbrev pub position_after : Position → List ℕ → Position
position_after p [] = p
position_after p (b ∷ bs) = position_after (next_position p b) bs

-- The fault is the text's first, and its position that of the byte where the text from the fault on begins.
pub record HasFault (begin : Position) (text : List ℕ) (f : ParseFault) : Type 0 where
  pub front : List ℕ
  pub at : List ℕ
  pub parts : text ≡ front ++ at
  pub first : IsReading text (Bad f.fault at)
  pub position : position_after begin front ≡ record { line = f.line; column = f.column }

-- the first line and column
abbrev pub text_start : Position
text_start = record { line = 1; column = 1 }
