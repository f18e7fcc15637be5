-- Places after lines and parts of one.
use Rattle.std.proofs.Common.{◌≡◌, ℕ, zero, suc, ◌+◌, ◌<◌, ◌==◌, Bool, true, false, List, [], ◌∷◌, length, drop, slice_index, None, Some, refl, sym, ap, ◌∙◌, add-one, arith}
use Rattle.memchr.specs.Find.{IsFirstByte, is_byte}
use Rattle.netkat_parser.specs.declared.fault.Position.{Position}
use Rattle.netkat_parser.specs.Places.{position_after}

abbrev on : ℕ → ℕ → Position
on line column = record { line = line; column = column }

no-line : (b : ℕ) → ¬ ((b == 10) ≡ true) → (b == 10) ≡ false
no-line b h = decided (b == 10) h
  where
    decided : (q : Bool) → ¬ (q ≡ true) → q ≡ false
    decided true n = absurd (n refl)
    decided false n = refl

along : (p : Position) (b : ℕ) (bs : List ℕ) → (b == 10) ≡ false → position_after p (b ∷ bs) ≡ position_after (on p.line (p.column + 1)) bs
along p b bs e = ap (λ q. position_after q bs) (rw e refl)

-- bytes with no LF stay on the line
pub on-line : (p : Position) (xs : List ℕ) → ((k : ℕ) → k < length xs → (slice_index xs k == 10) ≡ false) → on p.line (p.column + length xs) ≡ position_after p xs
on-line p [] h = ap (on p.line) (omega arith)
on-line p (b ∷ bs) h =
    let e : p.column + length (b ∷ bs) ≡ p.column + 1 + length bs = omega arith in
    ap (on p.line) e ∙ on-line (on p.line (p.column + 1)) bs (λ k lt. h (suc k) (omega arith)) ∙ sym (along p b bs (h 0 (omega arith)))

-- after the first LF another line begins
next-line : (p : Position) (xs : List ℕ) (k : ℕ) → k < length xs → ((j : ℕ) → j < k → (slice_index xs j == 10) ≡ false) → (slice_index xs k == 10) ≡ true
    → position_after p xs ≡ position_after (on (p.line + 1) 1) (drop (suc k) xs)
next-line p [] k lt h e = absurd (omega arith)
next-line p (b ∷ bs) zero lt h e = ap (λ q. position_after q bs) (rw e refl)
next-line p (b ∷ bs) (suc k) lt h e =
    along p b bs (h 0 (omega arith)) ∙ next-line (on p.line (p.column + 1)) bs k (omega arith) (λ j less. h (suc j) (omega arith)) e

pub past-line : (p : Position) (xs : List ℕ) (k : ℕ) → IsFirstByte (is_byte 10) xs (Some k) → position_after (on (p.line + 1) 1) (drop (k + 1) xs) ≡ position_after p xs
past-line p xs k h =
    ap (λ n. position_after (on (p.line + 1) 1) (drop n xs)) (add-one k)
    ∙ sym (next-line p xs k h.0.high (λ j less. no-line (slice_index xs j) (h.0.before j (omega arith) less)) h.1)

pub past-none : (p : Position) (xs : List ℕ) → IsFirstByte (is_byte 10) xs None → on p.line (p.column + length xs) ≡ position_after p xs
past-none p xs h = on-line p xs (λ k less. no-line (slice_index xs k) (h k (omega arith) less))
