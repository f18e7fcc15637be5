-- What stands at the front of a text that may go on.
use Rattle.std.specs.Prelude.{◌≡◌, ◌≢◌, ◌≤◌, ◌<◌, ℕ, Bool, true, false, not, ◌==◌, ◌&&◌, List, [], ◌∷◌, ◌++◌, length}
use Rattle.std.specs.Prelude.{take, drop, Some, if◌then◌else◌}
use Rattle.std.specs.List.{prefix_len}
use Rattle.std.specs.Char.{is_ascii_alphabetic, is_ascii_alphanumeric}
use Rattle.nk_values.specs.declared.field.Field.{Field}
use Rattle.nk_values.specs.declared.lit.Lit.{Lit}
use Rattle.nk_values.specs.Lits.{lit_field, lit_value}
use Rattle.netkat_parser.specs.declared.sign.Sign.{Sign}
use Rattle.netkat_parser.specs.declared.sign.Sign.TheVariants.{Name, Equals, Becomes}
use Rattle.netkat_parser.specs.declared.stage.Operator.{Operator}
use Rattle.netkat_parser.specs.declared.stage.Operator.TheVariants as operator
use Rattle.netkat_parser.specs.declared.pair.Pair.{Pair}
use Rattle.netkat_parser.specs.Numbers.{number, IsWritten}
use Rattle.netkat_parser.specs.Signs.{is_blank, ahead, sign, past, run, past_run}

-- a comment goes on after what stands in front of the next sign
abbrev pub comment_behind : Bool → List ℕ → Bool
comment_behind in_comment [] = in_comment
comment_behind true (b ∷ bs) = comment_behind (not (b == 10)) bs
comment_behind false (b ∷ bs) = if is_blank b then comment_behind false bs else if b ==
    35 then comment_behind true bs else false

-- the first sign may be another one where the text goes on: a name, or a `:`, at its end
abbrev pub is_cut : List ℕ → Bool
is_cut [] = true
is_cut (b ∷ bs) =
    if is_ascii_alphabetic b then prefix_len is_ascii_alphanumeric (b ∷ bs) == length (b ∷ bs) else b ==
    58 && length (b ∷ bs) == 1

-- what may follow: anything, or nothing at the end
abbrev pub EndsAt : Bool → List ℕ → Type 0
EndsAt end rest = end ≡ true → rest ≡ []

-- the first sign, of so many bytes, however the text goes on
pub record IsSignAt (text : List ℕ) (end : Bool) (g : Sign) (n : ℕ) : Type 0 where
  pub within : n ≤ length text
  pub some : text ≢ [] → 0 < n
  pub none : text ≡ [] → end ≡ true
  pub sign : (rest : List ℕ) → EndsAt end rest → sign (text ++ rest) ≡ g
  pub past : (rest : List ℕ) → EndsAt end rest → past (text ++ rest) ≡ ahead false (drop n text ++ rest)

-- the first run likewise
pub record IsRunAt (text : List ℕ) (end : Bool) (n : ℕ) : Type 0 where
  pub within : n ≤ length text
  pub run : (rest : List ℕ) → EndsAt end rest → run (text ++ rest) ≡ take n text
  pub past : (rest : List ℕ) → EndsAt end rest → past_run (text ++ rest) ≡ ahead false (drop n text ++ rest)

-- ---- after blanks and comments

-- the next sign ends after so many bytes, however the text goes on
pub record IsSignAhead (text : List ℕ) (g : Sign) (n : ℕ) : Type 0 where
  pub some : 0 < n
  pub within : n ≤ length text
  pub is_sign : (rest : List ℕ) → sign (ahead false (text ++ rest)) ≡ g
  pub goes_on : (rest : List ℕ) → past (ahead false (text ++ rest)) ≡ ahead false (drop n text ++ rest)

-- the next run likewise, which writes a literal of the field
pub record IsValueAhead (f : Field) (text : List ℕ) (l : Lit) (n : ℕ) : Type 0 where
  pub within : n ≤ length text
  pub value : List ℕ
  pub written : IsWritten f value (Some l)
  pub is_run : (rest : List ℕ) → run (ahead false (text ++ rest)) ≡ value
  pub goes_on : (rest : List ℕ) → past_run (ahead false (text ++ rest)) ≡ ahead false (drop n text ++ rest)

-- the sign between a field and its value
abbrev pub relation : Operator → Sign
relation operator.Test = Equals
relation operator.Assign = Becomes

-- the pair stands at the front, however the text goes on
pub record IsPairAt (text : List ℕ) (pair : Pair) : Type 0 where
  pub some : 0 < pair.len
  pub within : pair.len ≤ length text
  pub value : List ℕ
  pub written : number (lit_field pair.lit) value ≡ Some (lit_value pair.lit)
  pub is_name : (rest : List ℕ) → sign (text ++ rest) ≡ Name (lit_field pair.lit)
  pub is_relation : (rest : List ℕ) → sign (past (text ++ rest)) ≡ relation pair.operator
  pub is_run : (rest : List ℕ) → run (past (past (text ++ rest))) ≡ value
  pub goes_on : (rest : List ℕ) → past_run (past (past (text ++ rest))) ≡ ahead false (drop pair.len text ++ rest)
