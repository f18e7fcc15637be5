-- Numbers in decimal, two digits at a time.
use Rattle.std.proofs.Common.{◌≡◌, ◌+◌, ◌/◌, ◌%◌, ◌<◌, ◌≤◌, ◌^◌, ◌++◌, ◌∷◌, [], List, ℕ, ap, ◌∙◌, arith, append_assoc}
use Rattle.std.specs.Prelude.{decimal}
use Rattle.std.proofs.lemmas.Fmt.{decimal_digit, decimal_step}

-- the last two digits
pub two : (n : ℕ) → 100 ≤ n → n < 2 ^ 64 → decimal n ≡ decimal (n / 100) ++ (48 + n % 100 / 10) ∷ (48 + n % 100 % 10) ∷ []
two n many fits =
    let front : n / 10 / 10 ≡ n / 100 = omega arith in
    let tens : n / 10 % 10 ≡ n % 100 / 10 = omega arith in
    let ones : n % 10 ≡ n % 100 % 10 = omega arith in
    decimal_step n (omega (arith, many)) fits
    ∙ ap (λ (x : List ℕ). x ++ (48 + n % 10) ∷ []) (decimal_step (n / 10) (omega (arith, many)) (omega (arith, fits)))
    ∙ append_assoc (decimal (n / 10 / 10)) ((48 + n / 10 % 10) ∷ []) ((48 + n % 10) ∷ [])
    ∙ ap (λ (k : ℕ). decimal k ++ (48 + n / 10 % 10) ∷ (48 + n % 10) ∷ []) front
    ∙ ap (λ (k : ℕ). decimal (n / 100) ++ (48 + k) ∷ (48 + n % 10) ∷ []) tens
    ∙ ap (λ (k : ℕ). decimal (n / 100) ++ (48 + n % 100 / 10) ∷ (48 + k) ∷ []) ones

pub pair : (n : ℕ) → 10 ≤ n → n < 100 → decimal n ≡ (48 + n / 10) ∷ (48 + n % 10) ∷ []
pair n more less =
    decimal_step n more (omega (arith, less))
    ∙ ap (λ (x : List ℕ). x ++ (48 + n % 10) ∷ []) (decimal_digit (n / 10) (omega (arith, less)))
