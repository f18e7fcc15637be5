-- Lines that begin with another word than `end`.
use Rattle.std.proofs.Common.{◌≡◌, ◌≢◌, ℕ, zero, suc, ◌+◌, ◌⊎◌, inl, inr, Bool, true, false, not, ◌==◌, ◌&&◌, ◌||◌, cond, List, [], ◌∷◌, ◌++◌, ◌<◌, ◌≤◌, ◌-◌, nat_lt, length, get_or, take, drop, filter, refl, sym, ap, ◌∙◌, subst, arith}
use Rattle.std.specs.List.{prefix_len, list_all}
use Rattle.std.specs.Prelude.{codes}
use Rattle.std.specs.Str.{bytes_eq}
use Rattle.std.specs.Bool.{OnTrue}
use Rattle.std.proofs.lemmas.Bool.Decides.{Decides-eqb, nat_tests}
use Rattle.document_text.specs.Feeding.{differs, is_other}
use Rattle.document_text.specs.Texts.{is_over, content, is_blank, pieces, is_filled, words_of, is_end}
use Rattle.document_text.proofs.Pieces.{piece_len, Starts, rest-of, start-of, at-word, and-false}

-- ---- bytes at places

pub differs-at : (xs : List ℕ) (i d byte : ℕ) → i < length xs → differs xs i byte ≡ not (get_or xs i d == byte)
differs-at [] i d byte h = absurd (omega (arith, h))
differs-at (x ∷ xs) zero d byte h = refl
differs-at (x ∷ xs) (suc i) d byte h = differs-at xs i d byte (omega (arith, h))

pub differs-past : (xs : List ℕ) (i byte : ℕ) → length xs ≤ i → differs xs i byte ≡ false
differs-past [] i byte h = refl
differs-past (x ∷ xs) zero byte h = absurd (omega (arith, h))
differs-past (x ∷ xs) (suc i) byte h = differs-past xs i byte (omega (arith, h))

-- ---- blanks in front

blank-two : (x : ℕ) → is_blank x ≡ true → (x ≡ 32) ⊎ (x ≡ 9)
blank-two x h = split (x == 32) (x == 9) refl refl h
  where
    split : (b c : Bool) → (x == 32) ≡ b → (x == 9) ≡ c → (b || c) ≡ true → (x ≡ 32) ⊎ (x ≡ 9)
    split true c e f k = inl ((Decides-eqb x 32).0 e)
    split false true e f k = inr ((Decides-eqb x 9).0 f)
    split false false e f k = let clash : false ≡ true = k in cc

words-blank : (x : ℕ) (xs : List ℕ) → (x ≡ 32) ⊎ (x ≡ 9) → words_of (x ∷ xs) ≡ words_of xs
words-blank x xs (inl e) = subst (λ y. words_of (y ∷ xs) ≡ words_of xs) (sym e) refl
words-blank x xs (inr e) = subst (λ y. words_of (y ∷ xs) ≡ words_of xs) (sym e) refl

words-lead : (t rest : List ℕ) → words_of (t ++ rest) ≡ words_of (drop (prefix_len is_blank t) t ++ rest)
words-lead [] rest = refl
words-lead (x ∷ xs) rest = split (is_blank x) refl (words-lead xs rest)
  where
    split : (b : Bool) → is_blank x ≡ b → words_of (xs ++ rest) ≡ words_of (drop (prefix_len is_blank xs) xs ++ rest)
        → words_of (x ∷ (xs ++ rest)) ≡ words_of (drop (cond b (1 + prefix_len is_blank xs) 0) (x ∷ xs) ++ rest)
    split true e h =
        let k : suc (prefix_len is_blank xs) ≡ 1 + prefix_len is_blank xs = omega arith in
        words-blank x (xs ++ rest) (blank-two x e) ∙ h ∙ ap (λ n. words_of (drop n (x ∷ xs) ++ rest)) k
    split false e h = refl

-- ---- the first word

-- the bytes of a line before the first blank
abbrev first_word : List ℕ → List ℕ
first_word line = take (piece_len (content line)) (content line)

abbrev pub IsAt : List ℕ → ℕ → ℕ → Type 0
IsAt [] i byte = ⊥
IsAt (t ∷ ts) zero byte = t ≡ byte
IsAt (t ∷ ts) (suc i) byte = IsAt ts i byte

other-by : (y : ℕ) (zs : List ℕ) (t : ℕ) (ts : List ℕ) → ((y == t) && bytes_eq (first_word zs) ts) ≡ false → bytes_eq (first_word (y ∷ zs)) (t ∷ ts) ≡ false
other-by y zs t ts h = split (is_over (y ∷ zs))
  where
    inner : (c : Bool) → bytes_eq (take (cond c 0 (suc (piece_len (content zs)))) (y ∷ content zs)) (t ∷ ts) ≡ false
    inner true = refl
    inner false = h

    split : (b : Bool) → bytes_eq (take (piece_len (cond b [] (y ∷ content zs))) (cond b [] (y ∷ content zs))) (t ∷ ts) ≡ false
    split true = refl
    split false = inner (is_blank y)

other-word : (ys ts : List ℕ) (i byte : ℕ) → differs ys i byte ≡ true → IsAt ts i byte → (rest : List ℕ) → bytes_eq (first_word (ys ++ rest)) ts ≡ false
other-word [] ts i byte h at rest = let clash : false ≡ true = h in cc
other-word (y ∷ ys) [] i byte h at rest = absurd at
other-word (y ∷ ys) (t ∷ ts) zero byte h at rest =
    other-by y (ys ++ rest) t ts (split (y == byte) refl h)
  where
    split : (b : Bool) → (y == byte) ≡ b → not b ≡ true → ((y == t) && bytes_eq (first_word (ys ++ rest)) ts) ≡ false
    split true e k = let clash : false ≡ true = k in cc
    split false e k = ap (λ b. b && bytes_eq (first_word (ys ++ rest)) ts) (ap (λ z. y == z) at ∙ e)
other-word (y ∷ ys) (t ∷ ts) (suc i) byte h at rest =
    other-by y (ys ++ rest) t ts (ap (λ b. (y == t) && b) (other-word ys ts i byte h at rest) ∙ and-false (y == t))

no-end : (x : ℕ) (zs : List ℕ) → is_blank x ≡ false → bytes_eq (first_word (x ∷ zs)) (codes "end") ≡ false → is_end (words_of (x ∷ zs)) ≡ false
no-end x zs e = split (is_over (x ∷ zs))
  where
    split : (b : Bool) → bytes_eq (take (piece_len (cond b [] (x ∷ content zs))) (cond b [] (x ∷ content zs))) (codes "end") ≡ false
        → is_end (filter is_filled (pieces (cond b [] (x ∷ content zs)))) ≡ false
    split true h = refl
    split false h =
        at-word x (content zs) e
        ∙ ap (λ b. b && list_all is_blank (drop (piece_len (x ∷ content zs)) (x ∷ content zs))) h

no-end-at : (w : List ℕ) (i byte : ℕ) → Starts w → IsAt (codes "end") i byte → differs w i byte ≡ true → (rest : List ℕ) → is_end (words_of (w ++ rest)) ≡ false
no-end-at [] i byte s at h rest = let clash : false ≡ true = h in cc
no-end-at (x ∷ xs) i byte s at h rest = no-end x (xs ++ rest) s (other-word (x ∷ xs) (codes "end") i byte h at rest)

some-other : (w : List ℕ) → Starts w → is_other w ≡ true → (rest : List ℕ) → is_end (words_of (w ++ rest)) ≡ false
some-other w s h rest = split (differs w 0 101) (differs w 1 110) (differs w 2 100) refl refl refl h
  where
    split : (a b c : Bool) → differs w 0 101 ≡ a → differs w 1 110 ≡ b → differs w 2 100 ≡ c → (a || b || c) ≡ true → is_end (words_of (w ++ rest)) ≡ false
    split true b c e f g k = no-end-at w 0 101 s refl e rest
    split false true c e f g k = no-end-at w 1 110 s refl f rest
    split false false true e f g k = no-end-at w 2 100 s refl g rest
    split false false false e f g k = let clash : false ≡ true = k in cc

-- a byte of the first word is another one
pub other-end : (t w : List ℕ) → w ≡ drop (prefix_len is_blank t) t → is_other w ≡ true → (t ≢ []) × ((rest : List ℕ) → is_end (words_of (t ++ rest)) ≡ false)
other-end t w e h = (
  λ z. let clash : is_other (drop (prefix_len is_blank []) []) ≡ true = subst (λ u. is_other (drop (prefix_len is_blank u) u) ≡ true) z (ap is_other (sym e) ∙ h) in cc,
  λ rest. ap is_end (words-lead t rest) ∙ some-other (drop (prefix_len is_blank t) t) (start-of t) (ap is_other (sym e) ∙ h) rest,
)

-- the same of what the code asks
pub other-on : (b : Bool) (t : List ℕ) (n : ℕ) → n ≡ prefix_len is_blank t → b ≡ is_other (take (length t - n) (drop n t))
    → OnTrue b ((t ≢ []) × ((rest : List ℕ) → is_end (words_of (t ++ rest)) ≡ false))
other-on true t n e h = other-end t (take (length t - n) (drop n t)) (rest-of t n ∙ ap (λ k. drop k t) e) (sym h)
other-on false t n e h = tt

pub lt-false : (m n : ℕ) → n ≤ m → nat_lt m n ≡ false
lt-false m n h = grind (arith, nat_tests)
