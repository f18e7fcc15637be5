-- From bytes to lines, words and numbers.
use Rattle.std.specs.Prelude.{ℕ, suc, Bool, true, false, ◌==◌, ◌||◌, List, [], ◌∷◌, filter, codes, Option, Some}
use Rattle.std.specs.Prelude.{if◌then◌else◌, option_map, option_and_then}
use Rattle.std.specs.List.{before_first, after_first}
use Rattle.std.specs.Str.{bytes_eq}
use Rattle.netkat_parser.specs.Numbers as parser

-- a byte in front of the first piece
abbrev pub in_front : ℕ → List (List ℕ) → List (List ℕ)
in_front x [] = (x ∷ []) ∷ []
in_front x (piece ∷ pieces) = (x ∷ piece) ∷ pieces

-- the lines of a text, each with the LF that ends it; 10 is LF
abbrev pub lines_of : List ℕ → List (List ℕ)
lines_of [] = []
lines_of (x ∷ xs) = if x == 10 then (x ∷ []) ∷ lines_of xs else in_front x (lines_of xs)

-- how many bytes the first line has
abbrev pub first_len : List ℕ → ℕ
first_len [] = 0
first_len (x ∷ xs) = if x == 10 then 1 else suc (first_len xs)

-- nothing of a line counts from here on: a comment, or its end, LF or CR and LF
abbrev pub is_over : List ℕ → Bool
is_over [] = true
is_over (x ∷ xs) = x == 35 || bytes_eq (x ∷ xs) (codes "\n") || bytes_eq (x ∷ xs) (codes "\r\n")

-- what counts of a line
abbrev pub content : List ℕ → List ℕ
content [] = []
content (x ∷ xs) = if is_over (x ∷ xs) then [] else x ∷ content xs

-- a blank or a tab
abbrev pub is_blank : ℕ → Bool
is_blank b = b == 32 || b == 9

-- the pieces between blanks
abbrev pub pieces : List ℕ → List (List ℕ)
pieces [] = [] ∷ []
pieces (x ∷ xs) = if is_blank x then [] ∷ pieces xs else in_front x (pieces xs)

abbrev pub is_filled : List ℕ → Bool
is_filled [] = false
is_filled (x ∷ xs) = true

-- the words of a line
abbrev pub words_of : List ℕ → List (List ℕ)
words_of line = filter is_filled (pieces (content line))

-- the words are `end` alone
abbrev pub is_end : List (List ℕ) → Bool
is_end (w ∷ []) = bytes_eq w (codes "end")
is_end _ = false

-- 1 to 10 decimal digits
abbrev pub numeral : List ℕ → Option ℕ
numeral w = parser.numeral 10 1 10 w

-- the number of each word, where all are numerals
abbrev pub numerals : List (List ℕ) → Option (List ℕ)
numerals [] = Some []
numerals (w ∷ ws) = option_and_then (λ n. option_map (λ ns. n ∷ ns) (numerals ws)) (numeral w)

-- `S:B`, a switch and a port; 58 is `:`
abbrev pub end_of : List ℕ → Option (ℕ × ℕ)
end_of w = option_and_then (λ sw. option_map (λ pt. (sw, pt)) (numeral (after_first (λ b. b == 58) w)))
    (numeral (before_first (λ b. b == 58) w))
