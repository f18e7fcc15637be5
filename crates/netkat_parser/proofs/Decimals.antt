-- Numbers in decimal, as values are read.
use Rattle.std.proofs.Common.{◌≡◌, ℕ, ◌+◌, ◌%◌, ◌^◌, ◌<◌, ◌≤◌, Bool, true, false, ◌&&◌, ◌==◌, nat_eq, nat_le, List, [], ◌∷◌, ◌++◌, length, codes, decimal, Option, None, Some, cond, refl, sym, ap, ◌∙◌, arith}
use Rattle.std.specs.List.{list_all, prefix_len, starts_with}
use Rattle.std.specs.Char.{is_ascii_digit, is_digit}
use Rattle.std.specs.Str.Parse.{digits_value}
use Rattle.std.proofs.lemmas.Bool.Decides.{nat_tests}
use Rattle.std.proofs.lemmas.Fmt.{decimal_by_steps, decimal_is_IsNumeral, length-decimal-le, decimal_nonempty}
use Rattle.std.proofs.Math.Seq.{take-append_seam, drop-append_seam}
use Rattle.nk_values.specs.declared.field.Field.{Field}
use Rattle.netkat_parser.specs.Signs.{ahead, is_blank, is_run_byte, run, past_run}
use Rattle.netkat_parser.specs.Numbers.{number, numeral, at_most, digits_form, decimal_form}

within : (m n : ℕ) → m ≤ n → nat_le m n ≡ true
within m n h = grind (arith, nat_tests)

-- decimal digits
abbrev pub AreDigits : List ℕ → Type 0
AreDigits [] = Unit {0}
AreDigits (c ∷ cs) = (48 ≤ c) × (c ≤ 57) × AreDigits cs

digits-push : (ds : List ℕ) (d : ℕ) → AreDigits ds → d < 10 → AreDigits (ds ++ (48 + d) ∷ [])
digits-push [] d h small = (omega arith, omega arith, tt)
digits-push (c ∷ cs) d h small = (h.0, h.1, digits-push cs d h.2 small)

pub decimal-digits : (n : ℕ) → n < 2 ^ 64 → AreDigits (decimal n)
decimal-digits n small =
    decimal_by_steps (λ _ ds. AreDigits ds) (λ m h. (omega arith, omega arith, tt)) (λ m ds ten h. digits-push ds (m % 10) h (omega arith)) n small

-- the bytes are no letters and end no run
digit-byte : (c : ℕ) → 48 ≤ c → c ≤ 57 → is_ascii_digit c ≡ true
digit-byte c l h = grind (arith, nat_tests)

digit-ten : (c : ℕ) → 48 ≤ c → c ≤ 57 → is_digit c 10 ≡ true
digit-ten c l h = grind (arith, nat_tests)

digit-run : (c : ℕ) → 48 ≤ c → c ≤ 57 → is_run_byte c ≡ true
digit-run c l h = grind (arith, nat_tests)

digit-sign : (c : ℕ) → 48 ≤ c → c ≤ 57 → (is_blank c ≡ false) × ((c == 35) ≡ false)
digit-sign c l h = (grind (arith, nat_tests), grind (arith, nat_tests))

all-digits : (ds : List ℕ) → AreDigits ds → list_all is_ascii_digit ds ≡ true
all-digits [] h = refl
all-digits (c ∷ cs) h = rw (digit-byte c h.0 h.1, all-digits cs h.2) refl

all-ten : (ds : List ℕ) → AreDigits ds → list_all (λ d. is_digit d 10) ds ≡ true
all-ten [] h = refl
all-ten (c ∷ cs) h = rw (digit-ten c h.0 h.1, all-ten cs h.2) refl

not-x : (c : ℕ) → 48 ≤ c → c ≤ 57 → (120 == c) ≡ false
not-x c l h = grind (arith, nat_tests)

and-false : (b : Bool) → (b && false) ≡ false
and-false true = refl
and-false false = refl

no-prefix : (ds : List ℕ) → AreDigits ds → starts_with nat_eq ds (codes "0x") ≡ false
no-prefix [] h = refl
no-prefix (c ∷ []) h = and-false (48 == c)
no-prefix (c ∷ d ∷ ds) h = rw (not-x d h.2.0 h.2.1) (and-false (48 == c))

numeral-fits : (ds : List ℕ) → AreDigits ds → 0 < length ds → length ds ≤ 20 → decimal_form ds ≡ Some (digits_value 10 ds)
numeral-fits ds h some short = rw (within 1 (length ds) some, within (length ds) 20 short, all-ten ds h) refl

pub number-decimal : (f : Field) (n : ℕ) → n < 2 ^ 64 → number f (decimal n) ≡ Some n
number-decimal f n small =
    let ds = decimal-digits n small in
    rw (no-prefix (decimal n) ds, all-digits (decimal n) ds)
    (numeral-fits (decimal n) ds (decimal_nonempty n small) (length-decimal-le 20 n (omega arith) (omega arith) small)
    ∙ ap (λ m. Some m) (decimal_is_IsNumeral n small).1)

-- ---- a run of decimal digits

digit-range : (c : ℕ) → is_digit c 10 ≡ true → (48 ≤ c) × (c ≤ 57)
digit-range c e = (grind (arith, nat_tests), grind (arith, nat_tests))

both : (p q : Bool) → (p && q) ≡ true → (p ≡ true) × (q ≡ true)
both true true e = (refl, refl)
both true false e = cc
both false q e = cc

are-digits : (ds : List ℕ) → list_all (λ d. is_digit d 10) ds ≡ true → AreDigits ds
are-digits [] h = tt
are-digits (c ∷ cs) h =
    let k = both (is_digit c 10) (list_all (λ d. is_digit d 10) cs) h in
    let r = digit-range c k.0 in
    (r.0, r.1, are-digits cs k.1)

some-if : (b : Bool) (n m : ℕ) → Some n ≡ cond b (Some m) None → Some m ≡ Some n
some-if true n m e = sym e
some-if false n m e = cc

some-of : (high n : ℕ) (o : Option ℕ) → Some n ≡ at_most high o → o ≡ Some n
some-of high n None e = cc
some-of high n (Some m) e = some-if (nat_le m high) n m e

where-some : (b : Bool) (o : Option ℕ) (n : ℕ) → cond b o None ≡ Some n → (b ≡ true) × (o ≡ Some n)
where-some true o n e = (refl, e)
where-some false o n e = cc

-- a number of decimal digits is written so for each field
pub number-read : (f : Field) (high : ℕ) (ds : List ℕ) (n : ℕ) → Some n ≡ at_most high (numeral 10 1 20 ds) → number f ds ≡ Some n
number-read f high ds n e =
    let form = some-of high n (numeral 10 1 20 ds) e in
    let digits = (where-some _ (digits_form 10 ds) n form).1 in
    let h = are-digits ds (where-some _ (Some (digits_value 10 ds)) n digits).0 in
    rw (no-prefix ds h, all-digits ds h) form

-- the byte after a run ends it
abbrev pub EndsRun : List ℕ → Type 0
EndsRun [] = Unit {0}
EndsRun (b ∷ bs) = is_run_byte b ≡ false

prefix-end : (rest : List ℕ) → EndsRun rest → prefix_len is_run_byte rest ≡ 0
prefix-end [] h = refl
prefix-end (b ∷ bs) h = rw h refl

prefix-digits : (ds rest : List ℕ) → AreDigits ds → EndsRun rest → prefix_len is_run_byte (ds ++ rest) ≡ length ds
prefix-digits [] rest h e = prefix-end rest e
prefix-digits (c ∷ cs) rest h e = rw (digit-run c h.0 h.1, prefix-digits cs rest h.2 e) (omega arith)

pub run-digits : (ds rest : List ℕ) → AreDigits ds → EndsRun rest → run (ds ++ rest) ≡ ds
run-digits ds rest h e = rw (prefix-digits ds rest h e) (take-append_seam ds rest)

pub past_run-digits : (ds rest : List ℕ) → AreDigits ds → EndsRun rest → past_run (ds ++ rest) ≡ ahead false rest
past_run-digits ds rest h e = rw (prefix-digits ds rest h e, drop-append_seam ds rest) refl

pub ahead-digits : (ds rest : List ℕ) → AreDigits ds → 0 < length ds → ahead false (ds ++ rest) ≡ ds ++ rest
ahead-digits [] rest h some = absurd (omega arith)
ahead-digits (c ∷ cs) rest h some = let s = digit-sign c h.0 h.1 in rw (s.0, s.1) refl
