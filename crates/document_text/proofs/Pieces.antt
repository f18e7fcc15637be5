-- Lines and words, one after another.
use Rattle.std.proofs.Common.{◌≡◌, ℕ, zero, suc, ◌+◌, ◌<◌, ◌≤◌, Bool, true, false, ◌==◌, ◌&&◌, cond, List, [], ◌∷◌, ◌++◌, length, take, drop, filter, refl, sym, ap, ◌∙◌, subst, arith, add-one, append_assoc, ◌-◌, length-drop}
use Rattle.std.specs.List.{position_or_len, prefix_len, list_all}
use Rattle.std.specs.Prelude.{codes}
use Rattle.std.specs.Str.{bytes_eq}
use Rattle.std.proofs.lemmas.List.Recursion.{is_position_or_len}
use Rattle.document_text.specs.States.{is_empty}
use Rattle.document_text.specs.Texts.{in_front, first_len, lines_of, is_over, content, is_blank, pieces, is_filled, words_of, is_end}

-- how many bytes of a line count
abbrev pub content_len : List ℕ → ℕ
content_len [] = 0
content_len (x ∷ xs) = cond (is_over (x ∷ xs)) 0 (suc (content_len xs))

-- how many bytes the first piece has
abbrev pub piece_len : List ℕ → ℕ
piece_len [] = 0
piece_len (x ∷ xs) = cond (is_blank x) 0 (suc (piece_len xs))

pub take-all : {A : Type 0} (n : ℕ) (xs : List A) → length xs ≤ n → take n xs ≡ xs
take-all zero [] h = refl
take-all (suc n) [] h = refl
take-all zero (x ∷ xs) h = absurd (omega (arith, h))
take-all (suc n) (x ∷ xs) h = ap (λ ys. x ∷ ys) (take-all n xs (omega (arith, h)))

-- what slices of a text hold
pub rest-of : (xs : List ℕ) (i : ℕ) → take (length xs - i) (drop i xs) ≡ drop i xs
rest-of xs i = take-all (length xs - i) (drop i xs) (omega (arith, length-drop i xs))

pub front-of : (n : ℕ) (xs : List ℕ) → take (n - 0) xs ≡ take n xs
front-of n xs = let e : n - 0 ≡ n = omega arith in ap (λ k. take k xs) e

abbrev Lines : Type 0
Lines = List (List ℕ)

-- the first line, and those after it
lines-by : (x : ℕ) (xs : List ℕ) (b : Bool) → (0 < length xs → lines_of xs ≡ take (first_len xs) xs ∷ lines_of (drop (first_len xs) xs))
    → cond b ((x ∷ []) ∷ lines_of xs) (in_front x (lines_of xs))
    ≡ take (cond b 1 (suc (first_len xs))) (x ∷ xs) ∷ lines_of (drop (cond b 1 (suc (first_len xs))) (x ∷ xs))
lines-by x xs true h = refl
lines-by x [] false h = refl
lines-by x (y ∷ ys) false h = ap (in_front x) (h (omega arith))

pub lines-cut : (text : List ℕ) → 0 < length text → lines_of text ≡ take (first_len text) text ∷ lines_of (drop (first_len text) text)
lines-cut [] h = absurd (omega arith)
lines-cut (x ∷ xs) h = lines-by x xs (x == 10) (lines-cut xs)

first-within : (text : List ℕ) → first_len text ≤ length text
first-within [] = omega arith
first-within (x ∷ xs) = split (x == 10) (first-within xs)
  where
    split : (b : Bool) → first_len xs ≤ length xs → cond b 1 (suc (first_len xs)) ≤ length (x ∷ xs)
    split true h = omega arith
    split false h = omega (arith, h)

-- what counts of a line, by its length
pub content-take : (line : List ℕ) → content line ≡ take (content_len line) line
content-take [] = refl
content-take (x ∷ xs) = split (is_over (x ∷ xs)) (content-take xs)
  where
    split : (b : Bool) → content xs ≡ take (content_len xs) xs → cond b [] (x ∷ content xs) ≡ take (cond b 0 (suc (content_len xs))) (x ∷ xs)
    split true h = refl
    split false h = ap (λ ys. x ∷ ys) h

-- what counts of a line
pub over-zero : (xs : List ℕ) → is_over xs ≡ true → content_len xs ≡ 0
over-zero [] h = refl
over-zero (x ∷ xs) h = rw h refl

over-suc : (xs : List ℕ) (i : ℕ) → i < length xs → is_over (drop i xs) ≡ false → content_len (drop i xs) ≡ suc (content_len (drop (suc i) xs))
over-suc [] i l h = absurd (omega arith)
over-suc (x ∷ xs) zero l h = rw h refl
over-suc (x ∷ xs) (suc i) l h = over-suc xs i (omega arith) h

pub over-more : (xs : List ℕ) (i : ℕ) → i < length xs → is_over (drop i xs) ≡ false → content_len xs ≡ i + content_len (drop i xs)
    → content_len xs ≡ (i + 1) + content_len (drop (i + 1) xs)
over-more xs i l h e = rw add-one (omega (arith, e, over-suc xs i l h))

pub over-here : (xs : List ℕ) (i : ℕ) → is_over (drop i xs) ≡ true → content_len xs ≡ i + content_len (drop i xs) → i ≡ content_len xs
over-here xs i h e = omega (arith, e, over-zero (drop i xs) h)

-- the first piece, and those after it
piece-by : (x : ℕ) (xs : List ℕ) (b : Bool) → (piece_len xs < length xs → pieces xs ≡ take (piece_len xs) xs ∷ pieces (drop (suc (piece_len xs)) xs))
    → cond b 0 (suc (piece_len xs)) < length (x ∷ xs)
    → cond b ([] ∷ pieces xs) (in_front x (pieces xs))
    ≡ take (cond b 0 (suc (piece_len xs))) (x ∷ xs) ∷ pieces (drop (suc (cond b 0 (suc (piece_len xs)))) (x ∷ xs))
piece-by x xs true h l = refl
piece-by x xs false h l = ap (in_front x) (h (omega arith))

piece-cut : (text : List ℕ) → piece_len text < length text → pieces text ≡ take (piece_len text) text ∷ pieces (drop (suc (piece_len text)) text)
piece-cut [] l = absurd (omega arith)
piece-cut (x ∷ xs) l = piece-by x xs (is_blank x) (piece-cut xs) l

last-by : (x : ℕ) (xs : List ℕ) (b : Bool) → (piece_len xs ≡ length xs → pieces xs ≡ take (piece_len xs) xs ∷ [])
    → cond b 0 (suc (piece_len xs)) ≡ length (x ∷ xs)
    → cond b ([] ∷ pieces xs) (in_front x (pieces xs)) ≡ take (cond b 0 (suc (piece_len xs))) (x ∷ xs) ∷ []
last-by x xs true h e = absurd (omega (arith, e))
last-by x xs false h e = ap (in_front x) (h (omega (arith, e)))

piece-last : (text : List ℕ) → piece_len text ≡ length text → pieces text ≡ take (piece_len text) text ∷ []
piece-last [] e = refl
piece-last (x ∷ xs) e = last-by x xs (is_blank x) (piece-last xs) e

front-by : (x : List ℕ) (xs : Lines) (b : Bool) → cond b (x ∷ filter is_filled xs) (filter is_filled xs) ≡ cond b (x ∷ []) [] ++ filter is_filled xs
front-by x xs true = refl
front-by x xs false = refl

filter-front : (x : List ℕ) (xs : Lines) → filter is_filled (x ∷ xs) ≡ filter is_filled (x ∷ []) ++ filter is_filled xs
filter-front x xs = front-by x xs (is_filled x)

pub words-more : (all : Lines) (rest : List ℕ) (whole : Lines) (n : ℕ) → n ≡ piece_len rest → n < length rest
    → all ++ filter is_filled (pieces rest) ≡ whole
    → (all ++ filter is_filled (take n rest ∷ [])) ++ filter is_filled (pieces (drop (n + 1) rest)) ≡ whole
words-more all rest whole n e l h =
    let cut : pieces rest ≡ take n rest ∷ pieces (drop (n + 1) rest)
    = rw add-one (subst (λ k. pieces rest ≡ take k rest ∷ pieces (drop (suc k) rest)) (sym e) (piece-cut rest (subst (λ k. k < length rest) e l))) in
    append_assoc all (filter is_filled (take n rest ∷ [])) (filter is_filled (pieces (drop (n + 1) rest)))
    ∙ ap (λ ws. all ++ ws) (sym (filter-front (take n rest) (pieces (drop (n + 1) rest))) ∙ ap (filter is_filled) (sym cut)) ∙ h

pub words-last : (all : Lines) (rest : List ℕ) (whole : Lines) (n : ℕ) → n ≡ piece_len rest → n ≡ length rest
    → all ++ filter is_filled (pieces rest) ≡ whole
    → all ++ filter is_filled (take n rest ∷ []) ≡ whole
words-last all rest whole n e l h =
    let cut : pieces rest ≡ take n rest ∷ [] = subst (λ k. pieces rest ≡ take k rest ∷ []) (sym e) (piece-last rest (sym e ∙ l)) in
    ap (λ ps. all ++ filter is_filled ps) (sym cut) ∙ h

pub words-more-at : (new all : Lines) (rest piece after : List ℕ) (whole : Lines) (n : ℕ) → new ≡ all ++ filter is_filled (piece ∷ []) → piece ≡ take n rest → after ≡ drop (n + 1) rest
    → n ≡ piece_len rest → n < length rest → all ++ filter is_filled (pieces rest) ≡ whole → new ++ filter is_filled (pieces after) ≡ whole
words-more-at new all rest piece after whole n e p a len l h =
    ap (λ d. new ++ filter is_filled (pieces d)) a
    ∙ ap (λ ws. ws ++ filter is_filled (pieces (drop (n + 1) rest))) (e ∙ ap (λ w. all ++ filter is_filled (w ∷ [])) p)
    ∙ words-more all rest whole n len l h

pub words-last-at : (new all : Lines) (rest piece : List ℕ) (whole : Lines) (n : ℕ) → new ≡ all ++ filter is_filled (piece ∷ []) → piece ≡ take n rest
    → n ≡ piece_len rest → n ≡ length rest → all ++ filter is_filled (pieces rest) ≡ whole → new ≡ whole
words-last-at new all rest piece whole n e p len l h = e ∙ ap (λ w. all ++ filter is_filled (w ∷ [])) p ∙ words-last all rest whole n len l h

-- a piece goes up to the first blank
pub piece-position : (text : List ℕ) → piece_len text ≡ position_or_len is_blank text
piece-position text = is_position_or_len piece_len is_blank refl (λ x xs. split (is_blank x) (piece_len xs)) text
  where
    split : (b : Bool) (n : ℕ) → cond b 0 (suc n) ≡ cond b 0 (1 + n)
    split true n = refl
    split false n = omega arith

-- blanks in front are in no word
lead : (c : List ℕ) → filter is_filled (pieces (drop (prefix_len is_blank c) c)) ≡ filter is_filled (pieces c)
lead [] = refl
lead (x ∷ xs) = split (is_blank x) refl (lead xs)
  where
    split : (b : Bool) → is_blank x ≡ b → filter is_filled (pieces (drop (prefix_len is_blank xs) xs)) ≡ filter is_filled (pieces xs)
        → filter is_filled (pieces (drop (cond b (1 + prefix_len is_blank xs) 0) (x ∷ xs))) ≡ filter is_filled (cond b ([] ∷ pieces xs) (in_front x (pieces xs)))
    split true e h = let k : 1 + prefix_len is_blank xs ≡ suc (prefix_len is_blank xs) = omega arith in ap (λ n. filter is_filled (pieces (drop n (x ∷ xs)))) k ∙ h
    split false e h = ap (λ c. filter is_filled (cond c ([] ∷ pieces xs) (in_front x (pieces xs)))) e

abbrev pub Starts : List ℕ → Type 0
Starts [] = Unit {0}
Starts (x ∷ xs) = is_blank x ≡ false

pub start-of : (c : List ℕ) → Starts (drop (prefix_len is_blank c) c)
start-of [] = tt
start-of (x ∷ xs) = split (is_blank x) refl (start-of xs)
  where
    split : (b : Bool) → is_blank x ≡ b → Starts (drop (prefix_len is_blank xs) xs) → Starts (drop (cond b (1 + prefix_len is_blank xs) 0) (x ∷ xs))
    split true e h = let k : suc (prefix_len is_blank xs) ≡ 1 + prefix_len is_blank xs = omega arith in subst (λ n. Starts (drop n (x ∷ xs))) k h
    split false e h = e

some-pieces : (xs : List ℕ) → (t : List ℕ) × (ps : Lines) × (pieces xs ≡ t ∷ ps)
some-pieces [] = ([], [], refl)
some-pieces (x ∷ xs) = split (is_blank x) (some-pieces xs)
  where
    split : (b : Bool) → ((t : List ℕ) × (ps : Lines) × (pieces xs ≡ t ∷ ps)) → (t : List ℕ) × (ps : Lines) × (cond b ([] ∷ pieces xs) (in_front x (pieces xs)) ≡ t ∷ ps)
    split true r = ([], pieces xs, refl)
    split false r = (x ∷ r.0, r.1, ap (in_front x) r.2)

-- blanks alone have no words
all-blank : (xs : List ℕ) → is_empty (filter is_filled (pieces xs)) ≡ list_all is_blank xs
all-blank [] = refl
all-blank (x ∷ xs) = split (is_blank x) (all-blank xs)
  where
    split : (b : Bool) → is_empty (filter is_filled (pieces xs)) ≡ list_all is_blank xs → is_empty (filter is_filled (cond b ([] ∷ pieces xs) (in_front x (pieces xs)))) ≡ (b && list_all is_blank xs)
    split true h = h
    split false h = let r = some-pieces xs in ap (λ ps. is_empty (filter is_filled (in_front x ps))) r.2

first-piece : (xs : List ℕ) → (ps : Lines) × (pieces xs ≡ take (piece_len xs) xs ∷ ps) × (is_empty (filter is_filled ps) ≡ list_all is_blank (drop (piece_len xs) xs))
first-piece [] = ([], refl, refl)
first-piece (x ∷ xs) = split (is_blank x) refl (first-piece xs)
  where
    split : (b : Bool) → is_blank x ≡ b → ((ps : Lines) × (pieces xs ≡ take (piece_len xs) xs ∷ ps) × (is_empty (filter is_filled ps) ≡ list_all is_blank (drop (piece_len xs) xs)))
        → (ps : Lines) × (cond b ([] ∷ pieces xs) (in_front x (pieces xs)) ≡ take (cond b 0 (suc (piece_len xs))) (x ∷ xs) ∷ ps)
        × (is_empty (filter is_filled ps) ≡ list_all is_blank (drop (cond b 0 (suc (piece_len xs))) (x ∷ xs)))
    split true e r = (pieces xs, refl, all-blank xs ∙ sym (ap (λ c. c && list_all is_blank xs) e))
    split false e r = (r.0, ap (in_front x) r.1, r.2)

and-true : (b : Bool) → (b && true) ≡ b
and-true true = refl
and-true false = refl

pub and-false : (b : Bool) → (b && false) ≡ false
and-false true = refl
and-false false = refl

one-word : (w : List ℕ) (ws : Lines) → is_end (w ∷ ws) ≡ (bytes_eq w (codes "end") && is_empty ws)
one-word w [] = sym (and-true (bytes_eq w (codes "end")))
one-word w (y ∷ ys) = sym (and-false (bytes_eq w (codes "end")))

keeps : (w : List ℕ) (ps : Lines) → is_filled w ≡ true → is_end (filter is_filled (w ∷ ps)) ≡ (bytes_eq w (codes "end") && is_empty (filter is_filled ps))
keeps w ps e = ap (λ b. is_end (cond b (w ∷ filter is_filled ps) (filter is_filled ps))) e ∙ one-word w (filter is_filled ps)

pub at-word : (x : ℕ) (xs : List ℕ) → is_blank x ≡ false → is_end (filter is_filled (pieces (x ∷ xs)))
    ≡ (bytes_eq (take (piece_len (x ∷ xs)) (x ∷ xs)) (codes "end") && list_all is_blank (drop (piece_len (x ∷ xs)) (x ∷ xs)))
at-word x xs e =
    let r = first-piece (x ∷ xs) in
    let w = take (piece_len (x ∷ xs)) (x ∷ xs) in
    let n : piece_len (x ∷ xs) ≡ suc (piece_len xs) = ap (λ c. cond c 0 (suc (piece_len xs))) e in
    let filled : is_filled w ≡ true = ap (λ k. is_filled (take k (x ∷ xs))) n in
    ap (λ ps. is_end (filter is_filled ps)) r.1 ∙ keeps w r.0 filled ∙ ap (λ b. bytes_eq w (codes "end") && b) r.2

at-start : (r : List ℕ) → Starts r → is_end (filter is_filled (pieces r)) ≡ (bytes_eq (take (piece_len r) r) (codes "end") && list_all is_blank (drop (piece_len r) r))
at-start [] s = refl
at-start (x ∷ xs) s = at-word x xs s

-- the one word of a line is `end` where it is the first and blanks are after it
pub end-line : (line c r : List ℕ) (n : ℕ) → c ≡ content line → r ≡ drop (prefix_len is_blank c) c → n ≡ position_or_len is_blank r
    → (bytes_eq (take n r) (codes "end") && list_all is_blank (drop n r)) ≡ is_end (words_of line)
end-line line c r n ce re ne =
    let s : Starts r = subst Starts (sym re) (start-of c) in
    sym
    (ap (λ x. is_end (filter is_filled (pieces x))) (sym ce) ∙ ap is_end (sym (lead c)) ∙ ap (λ x. is_end (filter is_filled (pieces x))) (sym re)
    ∙ at-start r s ∙ ap (λ k. bytes_eq (take k r) (codes "end") && list_all is_blank (drop k r)) (piece-position r ∙ sym ne))
