-- From bytes to signs, the tokens but for values: what stands between them, marks, names, and the runs that values are
-- read from.
use Rattle.std.specs.Prelude.{◌≡◌, ◌<◌, ℕ, Bool, true, false, not, ◌==◌, ◌&&◌, ◌||◌, List, [], ◌∷◌, drop, slice_index}
use Rattle.std.specs.Prelude.{codes, Option, None, Some, if◌then◌else◌}
use Rattle.std.specs.List.{find, prefix_len, take_while}
use Rattle.std.specs.Char.{is_ascii_alphabetic, is_ascii_alphanumeric}
use Rattle.std.specs.Str.{bytes_eq}
use Rattle.nk_values.specs.declared.field.Field.{Field}
use Rattle.nk_values.specs.Names.{name_of, all_fields}
use Rattle.netkat_parser.specs.declared.sign.Sign.{Sign}
use Rattle.netkat_parser.specs.declared.sign.Sign.TheVariants.{Skip, Drop, Dup, Not, Name, Equals, Becomes, Plus}
use Rattle.netkat_parser.specs.declared.sign.Sign.TheVariants.{Semicolon, Star, Open, Close, End, Unlisted, Strange}

-- calls at bytes answer as the test does
abbrev pub DecidesAs : (ℕ → Bool → Type 0) → (ℕ → Bool) → Type 0
DecidesAs post test = (b : ℕ) (x : Bool) → b < 256 → post b x → x ≡ test b

-- a blank, a tab, CR or LF
abbrev pub is_blank : ℕ → Bool
is_blank b = b == 32 || b == 9 || b == 13 || b == 10

-- what stands after blanks and comments, or after the rest of a comment; a comment goes from `#` to the end of its
-- line
abbrev pub ahead : Bool → List ℕ → List ℕ
ahead in_comment [] = []
ahead true (b ∷ bs) = ahead (not (b == 10)) bs
ahead false (b ∷ bs) = if is_blank b then ahead false bs else if b == 35 then ahead true bs else b ∷ bs

abbrev pub field_sign : Option Field → Sign
field_sign None = Unlisted
field_sign (Some f) = Name f

-- the sign of a name
abbrev pub word : List ℕ → Sign
word w =
    if bytes_eq w (codes "skip") then Skip else if bytes_eq w (codes "drop") then Drop else
    if bytes_eq w (codes "dup") then Dup else if bytes_eq w (codes "not") then Not else
    field_sign (find (λ f. bytes_eq w (name_of f)) all_fields)

-- the sign of a byte that is no letter: `+`, `;`, `*`, `(`, `)` or `=`
abbrev pub mark : ℕ → Sign
mark b =
    if b == 43 then Plus else if b == 59 then Semicolon else if b == 42 then Star else
    if b == 40 then Open else if b == 41 then Close else if b == 61 then Equals else Strange

-- `:=` stands at the front
abbrev pub is_becomes : List ℕ → Bool
is_becomes text = slice_index text 0 == 58 && slice_index text 1 == 61

-- the first sign of a text that begins with no blank
abbrev pub sign : List ℕ → Sign
sign [] = End
sign (b ∷ bs) =
    if is_ascii_alphabetic b then word (take_while is_ascii_alphanumeric (b ∷ bs)) else
    if is_becomes (b ∷ bs) then Becomes else mark b

-- how many bytes it has
abbrev pub sign_len : List ℕ → ℕ
sign_len [] = 0
sign_len (b ∷ bs) =
    if is_ascii_alphabetic b then prefix_len is_ascii_alphanumeric (b ∷ bs) else
    if is_becomes (b ∷ bs) then 2 else 1

-- from the next sign on
abbrev pub past : List ℕ → List ℕ
past text = ahead false (drop (sign_len text) text)

-- a letter, a digit, `.` or `:`
abbrev pub is_run_byte : ℕ → Bool
is_run_byte b = is_ascii_alphanumeric b || b == 46 || b == 58

-- the longest run of these at the front
abbrev pub run : List ℕ → List ℕ
run text = take_while is_run_byte text

-- from the next sign after it on
abbrev pub past_run : List ℕ → List ℕ
past_run text = ahead false (drop (prefix_len is_run_byte text) text)
