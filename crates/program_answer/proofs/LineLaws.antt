-- How lines are counted byte by byte.
use Rattle.std.proofs.Common.{◌≡◌, ◌∙◌, ℕ, suc, ◌+◌, ◌==◌, Bool, true, false, List, [], ◌∷◌, ◌++◌, length, refl, ap, cond, append_assoc, arith}
use Rattle.std.proofs.lemmas.List.{append-nil}
use Rattle.document_text.specs.Texts.{lines_of, in_front}
use Rattle.program_answer.specs.Lines.{Counts, going_on, line_after}
use Rattle.program_answer.specs.declared.lines.LineCount.{LineCount}

-- a byte that ends a line
ended : (b : Bool) (xs : List ℕ) → going_on b (length (lines_of (10 ∷ xs))) ≡ suc (length (lines_of xs))
ended true xs = refl
ended false xs = refl

-- and one that does not
in-line : (b : Bool) (x : ℕ) (ls : List (List ℕ)) → going_on b (length (in_front x ls)) ≡ going_on true (length ls)
in-line true x [] = refl
in-line true x (l ∷ ls) = refl
in-line false x [] = refl
in-line false x (l ∷ ls) = refl

going : (b : Bool) (x : ℕ) (xs : List ℕ) → (x == 10) ≡ false → going_on b (length (lines_of (x ∷ xs))) ≡ going_on true (length (lines_of xs))
going b x xs e = ap (λ (t : Bool). going_on b (length (cond t ((x ∷ []) ∷ lines_of xs) (in_front x (lines_of xs))))) e ∙ in-line b x (lines_of xs)

-- a count of a text, and of the text with one byte more
pub counts-ended : (c d : LineCount) (text : List ℕ) → d.ended ≡ c.ended + 1 → d.goes_on ≡ false → Counts c text → Counts d (text ++ 10 ∷ [])
counts-ended c d text e f h rest =
    let whole = ap (λ (ys : List ℕ). length (lines_of ys)) (append_assoc text (10 ∷ []) rest) in
    let front = ended c.goes_on rest in
    let new : going_on d.goes_on (length (lines_of rest)) ≡ length (lines_of rest) = ap (λ (b : Bool). going_on b (length (lines_of rest))) f in
    whole ∙ h (10 ∷ rest) ∙ omega (arith, front, new, e)

pub counts-going : (c d : LineCount) (x : ℕ) (text : List ℕ) → (x == 10) ≡ false → d.ended ≡ c.ended → d.goes_on ≡ true → Counts c text → Counts d (text ++ x ∷ [])
counts-going c d x text other e f h rest =
    let whole = ap (λ (ys : List ℕ). length (lines_of ys)) (append_assoc text (x ∷ []) rest) in
    let front = going c.goes_on x rest other in
    let new : going_on d.goes_on (length (lines_of rest)) ≡ going_on true (length (lines_of rest)) = ap (λ (b : Bool). going_on b (length (lines_of rest))) f in
    whole ∙ h (x ∷ rest) ∙ omega (arith, front, new, e)

-- the number of the line after the last one
pub after : (c : LineCount) (b : Bool) (text : List ℕ) → c.goes_on ≡ b → Counts c text → c.ended + going_on b 0 + 1 ≡ line_after text
after c b text e h =
    let counted : length (lines_of (text ++ [])) ≡ c.ended + going_on c.goes_on 0 = h [] in
    let whole = ap (λ (ys : List ℕ). length (lines_of ys)) (append-nil text) in
    let last = ap (λ (t : Bool). going_on t 0) e in
    omega (arith, counted, whole, last)
