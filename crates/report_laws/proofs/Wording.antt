-- The words of a line that consist of printed characters.
use Rattle.std.proofs.Common.{◌≡◌, ℕ, ◌<◌, ◌≤◌, ◌^◌, Bool, true, false, ◌&&◌, not, ◌==◌, nat_lt, nat_le, cond, List, [], ◌∷◌, ◌++◌, length, filter, refl, ◌∙◌, ap, Some, arith}
use Rattle.std.proofs.lemmas.Bool.{ne_eqb}
use Rattle.std.proofs.lemmas.Bool.Decides.{Decides-ltb, nat_tests}
use Rattle.std.proofs.lemmas.Fmt.{decimal_is_IsNumeral, length-decimal-le, decimal_nonempty}
use Rattle.std.specs.Char.{is_digit, digit_value}
use Rattle.std.specs.Fmt.{decimal}
use Rattle.std.specs.List.{list_all}
use Rattle.std.specs.Str.Parse.{AllDigits}
use Rattle.value_text.specs.Values.{line}
use Rattle.document_text.specs.Texts.{in_front, is_over, content, is_blank, pieces, is_filled, words_of, numeral}
use Rattle.line_laws.proofs.Cut.{every, and-left, and-right, and-both, every-append, every-weaker}
use Rattle.line_laws.proofs.Values.{digit, digits}

-- a character of a word: above a blank, and not the sign of a comment
abbrev pub in_word : ℕ → Bool
in_word c = nat_lt 32 c && not (c == 35)

-- a character of what counts of a line: a blank, or one of a word
abbrev pub counts : ℕ → Bool
counts c = nat_lt 31 c && not (c == 35)

word-counts : (c : ℕ) → in_word c ≡ true → counts c ≡ true
word-counts c h = and-both (nat_lt 31 c) (not (c == 35)) ((Decides-ltb 31 c).1 (omega (arith, (Decides-ltb 32 c).0 (and-left (nat_lt 32 c) (not (c == 35)) h)))) (and-right (nat_lt 32 c) (not (c == 35)) h)

digit-word : (c : ℕ) → digit c ≡ true → in_word c ≡ true
digit-word c h =
    let low = (Decides-ltb 47 c).0 (and-left (nat_lt 47 c) (nat_lt c 58) h) in
    and-both (nat_lt 32 c) (not (c == 35)) ((Decides-ltb 32 c).1 (omega (arith, low))) (ap not (ne_eqb c 35 (λ e. omega (arith, e, low))))

pub decimal-word : (n : ℕ) → n < 2 ^ 64 → every in_word (decimal n) ≡ true
decimal-word n l = every-weaker digit in_word digit-word (decimal n) (digits n l)

-- ---- what counts of a line

not-true : (b : Bool) → not b ≡ true → b ≡ false
not-true true h = absurd (cc)
not-true false h = refl

not-over : (c : ℕ) (cs : List ℕ) → counts c ≡ true → is_over (c ∷ cs) ≡ false
not-over c cs h =
    let low = (Decides-ltb 31 c).0 (and-left (nat_lt 31 c) (not (c == 35)) h) in
    let sign : (c == 35) ≡ false = not-true (c == 35) (and-right (nat_lt 31 c) (not (c == 35)) h) in
    let lf : (c == 10) ≡ false = ne_eqb c 10 (λ e. omega (arith, e, low)) in
    let cr : (c == 13) ≡ false = ne_eqb c 13 (λ e. omega (arith, e, low)) in
    rw (sign, lf, cr) refl

content-line : (xs : List ℕ) → every counts xs ≡ true → content (line xs) ≡ xs
content-line [] h = refl
content-line (c ∷ cs) h =
    ap (λ (b : Bool). cond b [] (c ∷ content (line cs))) (not-over c (line cs) (and-left (counts c) (every counts cs) h)) ∙ ap (λ (ys : List ℕ). c ∷ ys) (content-line cs (and-right (counts c) (every counts cs) h))

-- ---- words

not-blank : (c : ℕ) → in_word c ≡ true → is_blank c ≡ false
not-blank c h =
    let low = (Decides-ltb 32 c).0 (and-left (nat_lt 32 c) (not (c == 35)) h) in
    let blank : (c == 32) ≡ false = ne_eqb c 32 (λ e. omega (arith, e, low)) in
    let tab : (c == 9) ≡ false = ne_eqb c 9 (λ e. omega (arith, e, low)) in
    rw (blank, tab) refl

last-piece : (w : List ℕ) → every in_word w ≡ true → pieces w ≡ w ∷ []
last-piece [] h = refl
last-piece (c ∷ cs) h =
    ap (λ (b : Bool). cond b ([] ∷ pieces cs) (in_front c (pieces cs))) (not-blank c (and-left (in_word c) (every in_word cs) h)) ∙ ap (in_front c) (last-piece cs (and-right (in_word c) (every in_word cs) h))

next-piece : (w xs : List ℕ) → every in_word w ≡ true → pieces (w ++ 32 ∷ xs) ≡ w ∷ pieces xs
next-piece [] xs h = refl
next-piece (c ∷ cs) xs h =
    ap (λ (b : Bool). cond b ([] ∷ pieces (cs ++ 32 ∷ xs)) (in_front c (pieces (cs ++ 32 ∷ xs)))) (not-blank c (and-left (in_word c) (every in_word cs) h))
    ∙ ap (in_front c) (next-piece cs xs (and-right (in_word c) (every in_word cs) h))

-- a word that is a number
filled : (w : List ℕ) → 0 < length w → is_filled w ≡ true
filled [] h = absurd (omega (arith, h))
filled (c ∷ cs) h = refl

number-filled : (n : ℕ) → n < 2 ^ 64 → is_filled (decimal n) ≡ true
number-filled n l = filled (decimal n) (decimal_nonempty n l)

kept : (w : List ℕ) (ws : List (List ℕ)) → is_filled w ≡ true → filter is_filled (w ∷ ws) ≡ w ∷ filter is_filled ws
kept w ws h = ap (λ (b : Bool). cond b (w ∷ filter is_filled ws) (filter is_filled ws)) h

two-pieces : (w : List ℕ) (n : ℕ) → n < 2 ^ 64 → every in_word w ≡ true → pieces (w ++ 32 ∷ decimal n) ≡ w ∷ decimal n ∷ []
two-pieces w n l h = next-piece w (decimal n) h ∙ ap (λ (ws : List (List ℕ)). w ∷ ws) (last-piece (decimal n) (decimal-word n l))

-- a word and a number
pub two-words : (w : List ℕ) (n : ℕ) → n < 2 ^ 64 → every in_word w ≡ true → is_filled w ≡ true → words_of (line (w ++ 32 ∷ decimal n)) ≡ w ∷ decimal n ∷ []
two-words w n l h f =
    ap (λ (xs : List ℕ). filter is_filled (pieces xs)) (content-line (w ++ 32 ∷ decimal n) (every-append counts w (32 ∷ decimal n) (every-weaker in_word counts word-counts w h) (every-weaker in_word counts word-counts (decimal n) (decimal-word n l))))
    ∙ ap (filter is_filled) (two-pieces w n l h) ∙ kept w (decimal n ∷ []) f ∙ ap (λ (ws : List (List ℕ)). w ∷ ws) (kept (decimal n) [] (number-filled n l))

-- a word and two numbers
pub three-words : (w : List ℕ) (m n : ℕ) → m < 2 ^ 64 → n < 2 ^ 64 → every in_word w ≡ true → is_filled w ≡ true → words_of (line (w ++ 32 ∷ (decimal m ++ 32 ∷ decimal n))) ≡ w ∷ decimal m ∷ decimal n ∷ []
three-words w m n k l h f =
    ap (λ (xs : List ℕ). filter is_filled (pieces xs)) (content-line (w ++ 32 ∷ (decimal m ++ 32 ∷ decimal n)) (every-append counts w (32 ∷ (decimal m ++ 32 ∷ decimal n)) (every-weaker in_word counts word-counts w h)
    (every-append counts (decimal m) (32 ∷ decimal n) (every-weaker in_word counts word-counts (decimal m) (decimal-word m k)) (every-weaker in_word counts word-counts (decimal n) (decimal-word n l)))))
    ∙ ap (filter is_filled) (next-piece w (decimal m ++ 32 ∷ decimal n) h ∙ ap (λ (ws : List (List ℕ)). w ∷ ws) (two-pieces (decimal m) n l (decimal-word m k)))
    ∙ kept w (decimal m ∷ decimal n ∷ []) f ∙ ap (λ (ws : List (List ℕ)). w ∷ ws) (kept (decimal m) (decimal n ∷ []) (number-filled m k) ∙ ap (λ (ws : List (List ℕ)). decimal m ∷ ws) (kept (decimal n) [] (number-filled n l)))

-- ---- numbers of up to ten digits

all-ten : (ds : List ℕ) → AllDigits 10 ds → list_all (λ d. is_digit d 10) ds ≡ true
all-ten [] h = refl
all-ten (d ∷ ds) h = and-both (is_digit d 10) (list_all (λ c. is_digit c 10) ds) ((Decides-ltb (digit_value d) 10).1 h.0) (all-ten ds h.1)

within : (m n : ℕ) → m ≤ n → nat_le m n ≡ true
within m n h = grind (arith, nat_tests)

pub numeral-decimal : (n : ℕ) → n ≤ 4294967295 → numeral (decimal n) ≡ Some n
numeral-decimal n h =
    let small : n < 2 ^ 64 = omega (arith, h) in
    let is = decimal_is_IsNumeral n small in
    rw (within 1 (length (decimal n)) (decimal_nonempty n small), within (length (decimal n)) 10 (length-decimal-le 10 n (omega arith) (omega (arith, h)) small), all-ten (decimal n) is.0.1)
    (ap (λ (m : ℕ). Some m) is.1)
