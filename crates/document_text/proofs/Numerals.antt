-- Numbers of up to ten digits.
use Rattle.std.proofs.Common.{◌≡◌, ℕ, zero, suc, ◌<◌, ◌≤◌, ◌^◌, Bool, true, false, ◌&&◌, nat_le, nat_lt, cond, List, [], ◌∷◌, length, Some, None, refl, arith}
use Rattle.std.proofs.lemmas.Bool.Decides.{nat_tests}
use Rattle.std.specs.List.{list_all}
use Rattle.std.specs.Char.{is_digit, digit_value}
use Rattle.std.specs.Str.Parse.{digits_value, AllDigits}
use Rattle.std.proofs.lemmas.Int.Digits.{digits_value-lt}
use Rattle.netkat_parser.specs.Numbers.{at_most}
use Rattle.netkat_parser.specs.Numbers as parser

left-true : (a b : Bool) → (a && b) ≡ true → a ≡ true
left-true true b h = refl
left-true false b h = h

right-true : (a b : Bool) → (a && b) ≡ true → b ≡ true
right-true true b h = h
right-true false b h = absurd (cc)

below : (m n : ℕ) → nat_lt m n ≡ true → m < n
below m n h = grind (arith, nat_tests)

upto : (m n : ℕ) → nat_le m n ≡ true → m ≤ n
upto m n h = grind (arith, nat_tests)

within : (m n : ℕ) → m ≤ n → nat_le m n ≡ true
within m n h = grind (arith, nat_tests)

upto-ten : (n : ℕ) → n ≤ 10 → 10 ^ n ≤ 10 ^ 10
upto-ten zero h = omega arith
upto-ten (suc zero) h = omega arith
upto-ten (suc (suc zero)) h = omega arith
upto-ten (suc (suc (suc zero))) h = omega arith
upto-ten (suc (suc (suc (suc zero)))) h = omega arith
upto-ten (suc (suc (suc (suc (suc zero))))) h = omega arith
upto-ten (suc (suc (suc (suc (suc (suc zero)))))) h = omega arith
upto-ten (suc (suc (suc (suc (suc (suc (suc zero))))))) h = omega arith
upto-ten (suc (suc (suc (suc (suc (suc (suc (suc zero)))))))) h = omega arith
upto-ten (suc (suc (suc (suc (suc (suc (suc (suc (suc zero))))))))) h = omega arith
upto-ten (suc (suc (suc (suc (suc (suc (suc (suc (suc (suc zero)))))))))) h = omega arith
upto-ten (suc (suc (suc (suc (suc (suc (suc (suc (suc (suc (suc n))))))))))) h = absurd (omega (arith, h))

all-digits : (ds : List ℕ) → list_all (λ d. is_digit d 10) ds ≡ true → AllDigits 10 ds
all-digits [] h = tt
all-digits (d ∷ ds) h = (below (digit_value d) 10 (left-true _ _ h), all-digits ds (right-true _ _ h))

digits-by : (ds : List ℕ) (b : Bool) → list_all (λ d. is_digit d 10) ds ≡ b → length ds ≤ 10
    → at_most 281474976710655 (cond b (Some (digits_value 10 ds)) None) ≡ cond b (Some (digits_value 10 ds)) None
digits-by ds true e short =
    let lt = digits_value-lt 10 ds (all-digits ds e) in
    let ten : 10 ^ length ds ≤ 10 ^ 10 = upto-ten (length ds) short in
    let fits : digits_value 10 ds ≤ 281474976710655 = omega (arith, lt, ten) in
    rw (within (digits_value 10 ds) 281474976710655 fits) refl
digits-by ds false e short = refl

numeral-by : (ds : List ℕ) (a b : Bool) → nat_le (length ds) 10 ≡ b
    → at_most 281474976710655 (cond (a && b) (parser.digits_form 10 ds) None) ≡ cond (a && b) (parser.digits_form 10 ds) None
numeral-by ds true true e = digits-by ds (list_all (λ d. is_digit d 10) ds) refl (upto (length ds) 10 e)
numeral-by ds true false e = refl
numeral-by ds false b e = refl

-- ten digits write no number above the greatest one of any field
pub small : (ds : List ℕ) → at_most 281474976710655 (parser.numeral 10 1 10 ds) ≡ parser.numeral 10 1 10 ds
small ds = numeral-by ds (nat_le 1 (length ds)) (nat_le (length ds) 10) refl
