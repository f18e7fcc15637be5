-- The ends of lines, found by a search.
use Rattle.std.proofs.Common.{◌≡◌, ℕ, zero, suc, ◌+◌, ◌<◌, ◌==◌, Bool, true, false, List, [], ◌∷◌, ◌++◌, length, drop, slice_index, count_by, cond, None, Some, refl, sym, ap, ◌∙◌, add-one, arith}
use Rattle.std.proofs.lemmas.List.Sums.{sum_by-cons}
use Rattle.memchr.specs.Find.{IsFirstByte, is_byte}
use Rattle.document_text.specs.Texts.{first_len}

no-end : (b : ℕ) → ¬ ((b == 10) ≡ true) → (b == 10) ≡ false
no-end b h = decided (b == 10) h
  where
    decided : (q : Bool) → ¬ (q ≡ true) → q ≡ false
    decided true n = absurd (n refl)
    decided false n = refl

len-some : (text rest : List ℕ) (k : ℕ) → k < length text → ((j : ℕ) → j < k → (slice_index text j == 10) ≡ false) → (slice_index text k == 10) ≡ true
    → first_len (text ++ rest) ≡ suc k
len-some [] rest k lt h e = absurd (omega arith)
len-some (x ∷ xs) rest zero lt h e = rw e refl
len-some (x ∷ xs) rest (suc k) lt h e = rw (h 0 (omega arith)) (ap suc (len-some xs rest k (omega arith) (λ j less. h (suc j) (omega arith)) e))

len-none : (text rest : List ℕ) → ((j : ℕ) → j < length text → (slice_index text j == 10) ≡ false) → first_len (text ++ rest) ≡ length text + first_len rest
len-none [] rest h = omega arith
len-none (x ∷ xs) rest h =
    let e = len-none xs rest (λ j less. h (suc j) (omega arith)) in
    rw (h 0 (omega arith)) (omega (arith, e))

counted : (x : ℕ) (xs : List ℕ) (q : Bool) → (x == 10) ≡ q → count_by (λ b. b == 10) (x ∷ xs) ≡ cond q 1 0 + count_by (λ b. b == 10) xs
counted x xs q e = sum_by-cons (λ b. cond (b == 10) 1 0) x xs ∙ ap (λ p. cond p 1 0 + count_by (λ b. b == 10) xs) e

ends-some : (text : List ℕ) (k : ℕ) → k < length text → ((j : ℕ) → j < k → (slice_index text j == 10) ≡ false) → (slice_index text k == 10) ≡ true
    → count_by (λ b. b == 10) text ≡ suc (count_by (λ b. b == 10) (drop (suc k) text))
ends-some [] k lt h e = absurd (omega arith)
ends-some (x ∷ xs) zero lt h e = omega (arith, counted x xs true e)
ends-some (x ∷ xs) (suc k) lt h e =
    let more = ends-some xs k (omega arith) (λ j less. h (suc j) (omega arith)) e in
    omega (arith, counted x xs false (h 0 (omega arith)), more)

ends-none : (text : List ℕ) → ((j : ℕ) → j < length text → (slice_index text j == 10) ≡ false) → count_by (λ b. b == 10) text ≡ 0
ends-none [] h = refl
ends-none (x ∷ xs) h =
    let none = ends-none xs (λ j less. h (suc j) (omega arith)) in
    omega (arith, counted x xs false (h 0 (omega arith)), none)

module _ (text : List ℕ) (k : ℕ) (h : IsFirstByte (is_byte 10) text (Some k)) where
  pub line-len : (rest : List ℕ) → first_len (text ++ rest) ≡ k + 1
  line-len rest = len-some text rest k h.0.high (λ j less. no-end (slice_index text j) (h.0.before j (omega arith) less)) h.1 ∙ sym (add-one k)

  pub line-more : count_by (λ b. b == 10) text ≡ suc (count_by (λ b. b == 10) (drop (k + 1) text))
  line-more =
      ends-some text k h.0.high (λ j less. no-end (slice_index text j) (h.0.before j (omega arith) less)) h.1
      ∙ ap (λ n. suc (count_by (λ b. b == 10) (drop n text))) (sym (add-one k))

module _ (text : List ℕ) (h : IsFirstByte (is_byte 10) text None) where
  pub piece-len : (rest : List ℕ) → first_len (text ++ rest) ≡ length text + first_len rest
  piece-len rest = len-none text rest (λ j less. no-end (slice_index text j) (h j (omega arith) less))

  pub line-last : count_by (λ b. b == 10) text ≡ 0
  line-last = ends-none text (λ j less. no-end (slice_index text j) (h j (omega arith) less))
