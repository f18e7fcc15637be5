-- A number, digit by digit.
use Rattle.std.proofs.Common.{◌≡◌, ℕ, ◌+◌, ◌*◌, ◌<◌, ◌≤◌, Bool, true, false, nat_le, nat_lt, cond, List, length, get_or, take, Some, None, refl, sym, arith}
use Rattle.std.proofs.lemmas.List.Folds.{list_all_more}
use Rattle.std.specs.List.{list_all}
use Rattle.std.proofs.lemmas.Bool.Decides.{nat_tests}
use Rattle.std.specs.Char.{is_digit, digit_value}
use Rattle.std.specs.Str.Parse.{digits_value}
use Rattle.std.proofs.lemmas.Int.Digits.{digits_value_more}
use Rattle.std.proofs.lemmas.Str.Parse.{digits_value-take-le}
use Rattle.netkat_parser.specs.Numbers.{at_most, digits_form}

lt-true : (m n : ℕ) → m < n → nat_lt m n ≡ true
lt-true m n h = grind (arith, nat_tests)

past_by : (high v : ℕ) (b : Bool) → nat_le v high ≡ false → at_most high (cond b (Some v) None) ≡ None
past_by high v true e = rw e refl
past_by high v false e = refl

-- a number that passes the greatest one on the way
pub digits-past : (base high : ℕ) (ds : List ℕ) (i : ℕ) → 2 ≤ base → high < digits_value base (take i ds) → at_most high (digits_form base ds) ≡ None
digits-past base high ds i two past =
    let more : high < digits_value base ds = omega (arith, digits_value-take-le base ds i (omega arith)) in
    past_by high (digits_value base ds) _ (grind (arith, nat_tests))

pub ruleset counting = (digits_value_more, list_all_more, digits-past)

pub digits-past-at : (base high : ℕ) (ds : List ℕ) (i n : ℕ) → 2 ≤ base → n ≡ digits_value base (take (i + 1) ds) → high < n → None ≡ at_most high (digits_form base ds)
digits-past-at base high ds i n two e past = sym (digits-past base high ds (i + 1) two (omega (arith, e)))

pub value-more : (base : ℕ) (ds : List ℕ) (i n digit : ℕ) → i < length ds → n ≡ digits_value base (take i ds) → digit ≡ digit_value (get_or ds i 0)
    → n * base + digit ≡ digits_value base (take (i + 1) ds)
value-more base ds i n digit within value d = rw (digits_value_more base ds i within, value, d) refl

pub digits-more : (base : ℕ) (ds : List ℕ) (i : ℕ) → i < length ds → list_all (λ d. is_digit d base) (take i ds) ≡ true → digit_value (get_or ds i 0) < base
    → list_all (λ d. is_digit d base) (take (i + 1) ds) ≡ true
digits-more base ds i within digits small =
    rw (list_all_more (λ d. is_digit d base) ds i 0 within, digits, lt-true (digit_value (get_or ds i 0)) base small) refl
