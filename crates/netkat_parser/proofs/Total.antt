-- Each text has an outcome.
use Rattle.std.proofs.Common.{◌≡◌, ◌≢◌, ℕ, zero, suc, ◌+◌, ◌<◌, ◌≤◌, ◌⊎◌, inl, inr, Bool, true, false, cond, ◌||◌, ◌==◌, List, [], ◌∷◌, length, drop, Option, Some, None, refl, arith, length-drop}
use Rattle.std.specs.List.{prefix_len}
use Rattle.std.specs.Char.{is_ascii_alphabetic, is_ascii_alphanumeric}
use Rattle.std.specs.Int.{is_in_range}
use Rattle.std.proofs.lemmas.Bool.{cases_lt}
use Rattle.std.proofs.lemmas.Bool.Decides.{Decides-eqb}
use Rattle.nk_values.specs.declared.field.Field.{Field}
use Rattle.nk_values.specs.declared.field.Field.TheVariants.{EthTyp}
use Rattle.nk_values.specs.declared.text_fault.TextFault.TheVariants as fault
use Rattle.nk_values.specs.Ranges.{IsValue, IsLiteralOf, least_value, least_literal, greatest}
use Rattle.nk_syntax.specs.Terms.{Term, Filter, Test, Assign, One, Zero, Dup}
use Rattle.netkat_parser.specs.declared.fault.Position.{Position}
use Rattle.netkat_parser.specs.declared.fault.ParseFault.{ParseFault}
use Rattle.netkat_parser.specs.declared.sign.Sign.{Sign}
use Rattle.netkat_parser.specs.declared.sign.Sign.TheVariants as to_sign
use Rattle.netkat_parser.specs.declared.sign.Sign.TheVariants.{Name, Equals, Becomes, Plus, Semicolon, Open, End}
use Rattle.netkat_parser.specs.Signs.{sign, sign_len, is_becomes, past, run, ahead}
use Rattle.netkat_parser.specs.Numbers.{number}
use Rattle.netkat_parser.specs.Places.{HasFault, position_after}
use Rattle.netkat_parser.specs.Grammar.{Spot, Got, Read, Bad, step, strays, literal, gathered, negated, sum_of, seq_of, closed, starred, ended, first_spot, Opens, IsNumber, IsRun, IsPair, IsLeaf, IsPolicy, AreSummands, IsSequence, AreFactors, IsUnary, IsAtom, IsReading, IsText, sum, last_summand, more_summands, sequence, last_factor, more_factors, negation, post, bracket, leaf}
use Rattle.netkat_parser.proofs.Suffixes.{end-ahead, end-short, end-fault, ends-sequence, ends-unary}

abbrev Has : {A : Type 0} → (Got A → Type 0) → Type 0
Has {A} P = (o : Got A) × P o

-- a text with a sign is shorter after it
letter : (d u l : Bool) → (u || l) ≡ true → ((d || u) || l) ≡ true
letter true u l e = refl
letter false u l e = e

pub some-len : (b : ℕ) (bs : List ℕ) → 1 ≤ sign_len (b ∷ bs)
some-len b bs = split (is_ascii_alphabetic b) refl (is_becomes (b ∷ bs))
  where
    word : (a : Bool) (n : ℕ) → a ≡ true → 1 ≤ cond a (1 + n) 0
    word true n e = omega arith
    word false n e = absurd (cc)

    split : (a : Bool) → is_ascii_alphabetic b ≡ a → (c : Bool) → 1 ≤ cond a (prefix_len is_ascii_alphanumeric (b ∷ bs)) (cond c 2 1)
    split true e c = word (is_ascii_alphanumeric b) (prefix_len is_ascii_alphanumeric bs) (letter (is_in_range 48 57 b) (is_in_range 65 90 b) (is_in_range 97 122 b) e)
    split false e true = omega arith
    split false e false = omega arith

past-less : (text : List ℕ) → sign text ≢ End → length (past text) < length text
past-less [] ne = absurd (ne refl)
past-less (b ∷ bs) ne =
    let n = sign_len (b ∷ bs) in
    let rest : length (ahead false (drop n (b ∷ bs))) ≤ length (drop n (b ∷ bs)) = end-short _ _ (end-ahead false (drop n (b ∷ bs))) in
    omega (arith, rest, some-len b bs, length-drop n (b ∷ bs))

-- a sign is this one or not
open-or-not : (t : Sign) → (t ≡ Open) ⊎ (t ≢ Open)
open-or-not Open = inl refl
open-or-not t = inr (λ e. cc)

not-or-not : (t : Sign) → (t ≡ to_sign.Not) ⊎ (t ≢ to_sign.Not)
not-or-not to_sign.Not = inl refl
not-or-not t = inr (λ e. cc)

plus-or-not : (t : Sign) → (t ≡ Plus) ⊎ (t ≢ Plus)
plus-or-not Plus = inl refl
plus-or-not t = inr (λ e. cc)

semicolon-or-not : (t : Sign) → (t ≡ Semicolon) ⊎ (t ≢ Semicolon)
semicolon-or-not Semicolon = inl refl
semicolon-or-not t = inr (λ e. cc)

opens-or-not : (t : Sign) (depth : ℕ) (s : Spot) → (sign s.text ≡ t) ⊎ (sign s.text ≢ t) → Opens t depth s ⊎ ¬ (Opens t depth s)
opens-or-not t depth s (inr n) = inr (λ h. n h.0)
opens-or-not t depth s (inl e) = split (cases_lt depth 200)
  where
    split : (depth < 200) ⊎ (200 ≤ depth) → Opens t depth s ⊎ ¬ (Opens t depth s)
    split (inl h) = inl (e, h)
    split (inr h) = inr (λ k. absurd (omega (arith, h, k.1)))

-- a number is a literal of a field or not
no-tag-or-tag : (f : Field) (n : ℕ) → (f ≡ EthTyp → n ≢ 33024) ⊎ ((f ≡ EthTyp) × (n ≡ 33024))
no-tag-or-tag EthTyp n = split (n == 33024) refl
  where
    split : (b : Bool) → (n == 33024) ≡ b → (EthTyp ≡ EthTyp → n ≢ 33024) ⊎ ((EthTyp ≡ EthTyp) × (n ≡ 33024))
    split true e = inr (refl, (Decides-eqb n 33024).0 e)
    split false e = inl (λ k h. let t : (n == 33024) ≡ true = (Decides-eqb n 33024).1 h in absurd (cc))
no-tag-or-tag f n = inl (λ e. absurd (cc))

pub value-or-not : (f : Field) (n : ℕ) → IsValue f n ⊎ ¬ (IsValue f n)
value-or-not f n = low (cases_lt n (least_value f))
  where
    tag : least_value f ≤ n → n ≤ greatest f → (f ≡ EthTyp → n ≢ 33024) ⊎ ((f ≡ EthTyp) × (n ≡ 33024)) → IsValue f n ⊎ ¬ (IsValue f n)
    tag l h (inl t) = inl (record { low = l; high = h; no_tag = t })
    tag l h (inr t) = inr (λ v. v.no_tag t.0 t.1)

    high : least_value f ≤ n → (greatest f < n) ⊎ (n ≤ greatest f) → IsValue f n ⊎ ¬ (IsValue f n)
    high l (inl h) = inr (λ v. absurd (omega (arith, h, v.high)))
    high l (inr h) = tag l h (no-tag-or-tag f n)

    low : (n < least_value f) ⊎ (least_value f ≤ n) → IsValue f n ⊎ ¬ (IsValue f n)
    low (inl h) = inr (λ v. absurd (omega (arith, h, v.low)))
    low (inr h) = high h (cases_lt (greatest f) n)

literal-or-not : (f : Field) (n : ℕ) → IsLiteralOf f n ⊎ ¬ (IsLiteralOf f n)
literal-or-not f n = split (value-or-not f n) (cases_lt n (least_literal f))
  where
    split : IsValue f n ⊎ ¬ (IsValue f n) → (n < least_literal f) ⊎ (least_literal f ≤ n) → IsLiteralOf f n ⊎ ¬ (IsLiteralOf f n)
    split (inr v) h = inr (λ l. v l.value)
    split (inl v) (inl h) = inr (λ l. absurd (omega (arith, h, l.low)))
    split (inl v) (inr h) = inl (record { value = v; low = h })

number-some : (f : Field) (make : ℕ → Term) (s : Spot) (n : Option ℕ) → Has (IsNumber f make s n)
number-some f make s None = (Bad fault.ValueRange s.text, refl)
number-some f make s (Some n) = split (literal-or-not f n)
  where
    split : IsLiteralOf f n ⊎ ¬ (IsLiteralOf f n) → Has (IsNumber f make s (Some n))
    split (inl l) = (literal f make s n, inl (l, refl))
    split (inr l) = (Bad fault.ValueRange s.text, inr (l, refl))

run-some : (depth : ℕ) (f : Field) (make : ℕ → Term) (s : Spot) (r : List ℕ) → Has (IsRun depth f make s r)
run-some depth f make s [] = (strays depth s, refl)
run-some depth f make s (b ∷ bs) = number-some f make s (number f (b ∷ bs))

pair-some : (depth : ℕ) (inside : Bool) (f : Field) (s : Spot) (t : Sign) → Has (IsPair depth inside f s t)
pair-some depth false f s Equals = run-some depth f (λ n. Filter (Test f n)) (step s) (run (past s.text))
pair-some depth true f s Equals = run-some depth f (λ n. Filter (Test f n)) (step s) (run (past s.text))
pair-some depth false f s Becomes = run-some depth f (Assign f) (step s) (run (past s.text))
pair-some depth true f s Becomes = (Bad fault.NotPredicate s.text, refl)
pair-some depth false f s t = (strays depth s, refl)
pair-some depth true f s t = (strays depth s, refl)

leaf-some : (depth : ℕ) (inside : Bool) (s : Spot) (t : Sign) → Has (IsLeaf depth inside s t)
leaf-some depth false s to_sign.Skip = (Read (Filter One) (step s), refl)
leaf-some depth true s to_sign.Skip = (Read (Filter One) (step s), refl)
leaf-some depth false s to_sign.Drop = (Read (Filter Zero) (step s), refl)
leaf-some depth true s to_sign.Drop = (Read (Filter Zero) (step s), refl)
leaf-some depth false s to_sign.Dup = (Read Dup (step s), refl)
leaf-some depth true s to_sign.Dup = (Bad fault.NotPredicate s.text, refl)
leaf-some depth false s (Name f) = pair-some depth false f (step s) (sign (past s.text))
leaf-some depth true s (Name f) = pair-some depth true f (step s) (sign (past s.text))
leaf-some depth false s t = (strays depth s, refl)
leaf-some depth true s t = (strays depth s, refl)

-- each part has an outcome at each text of fewer than so many bytes
record Below (n : ℕ) : Type 0 where
  policy : (depth : ℕ) (inside : Bool) (s : Spot) → length s.text < n → Has (IsPolicy depth inside s)
  summands : (depth : ℕ) (inside : Bool) (s : Spot) → length s.text < n → Has (AreSummands depth inside s)
  factors : (depth : ℕ) (inside : Bool) (s : Spot) → length s.text < n → Has (AreFactors depth inside s)
  unary : (depth : ℕ) (inside : Bool) (s : Spot) → length s.text < n → Has (IsUnary depth inside s)

-- after a sign that is one
behind-less : (t : Sign) (s : Spot) (n : ℕ) → t ≢ End → sign s.text ≡ t → length s.text ≤ n → length (step s).text < n
behind-less t s n ne e le =
    let less = past-less s.text (λ k. ne (let d : t ≡ End = cc in d)) in
    omega (arith, less, le)

module _ (n : ℕ) (below : Below n) (depth : ℕ) (inside : Bool) (s : Spot) (le : length s.text ≤ n) where
  atom-some : Has (IsAtom depth inside s)
  atom-some = split (opens-or-not Open depth s (open-or-not (sign s.text)))
    where
      split : Opens Open depth s ⊎ ¬ (Opens Open depth s) → Has (IsAtom depth inside s)
      split (inl h) = let r = below.policy (depth + 1) inside (step s) (behind-less Open s n (λ e. cc) h.0 le) in (closed (depth + 1) r.0, bracket depth inside s r.0 h r.1)
      split (inr h) = let r = leaf-some depth inside s (sign s.text) in (r.0, leaf depth inside s r.0 h r.1)

  unary-some : Has (IsUnary depth inside s)
  unary-some = split (opens-or-not to_sign.Not depth s (not-or-not (sign s.text)))
    where
      split : Opens to_sign.Not depth s ⊎ ¬ (Opens to_sign.Not depth s) → Has (IsUnary depth inside s)
      split (inl h) = let r = below.unary (depth + 1) true (step s) (behind-less to_sign.Not s n (λ e. cc) h.0 le) in (gathered negated r.0, negation depth inside s r.0 h r.1)
      split (inr h) = let r = atom-some in (starred inside r.0, post depth inside s r.0 h r.1)

  factors-some : Has (AreFactors depth inside s)
  factors-some = split unary-some.0 unary-some.1
    where
      next : (p : Term) (t : Spot) → IsUnary depth inside s (Read p t) → (sign t.text ≡ Semicolon) ⊎ (sign t.text ≢ Semicolon) → Has (AreFactors depth inside s)
      next p t h (inl e) =
          let short = end-short t.text s.text (ends-unary depth inside s (Read p t) h) in
          let m = below.factors depth inside (step t) (behind-less Semicolon t n (λ e. cc) e (omega (arith, short, le))) in
          (gathered (λ ps. p ∷ ps) m.0, more_factors depth inside s p t m.0 h e m.1)
      next p t h (inr e) = (gathered (λ p. p ∷ []) (Read p t), last_factor depth inside s (Read p t) h e)

      split : (o : Got Term) → IsUnary depth inside s o → Has (AreFactors depth inside s)
      split (Read p t) h = next p t h (semicolon-or-not (sign t.text))
      split (Bad e at) h = (gathered (λ p. p ∷ []) (Bad e at), last_factor depth inside s (Bad e at) h tt)

  sequence-some : Has (IsSequence depth inside s)
  sequence-some = let r = factors-some in (gathered seq_of r.0, sequence depth inside s r.0 r.1)

  summands-some : Has (AreSummands depth inside s)
  summands-some = split sequence-some.0 sequence-some.1
    where
      next : (p : Term) (t : Spot) → IsSequence depth inside s (Read p t) → (sign t.text ≡ Plus) ⊎ (sign t.text ≢ Plus) → Has (AreSummands depth inside s)
      next p t h (inl e) =
          let short = end-short t.text s.text (ends-sequence depth inside s (Read p t) h) in
          let m = below.summands depth inside (step t) (behind-less Plus t n (λ e. cc) e (omega (arith, short, le))) in
          (gathered (λ ps. p ∷ ps) m.0, more_summands depth inside s p t m.0 h e m.1)
      next p t h (inr e) = (gathered (λ p. p ∷ []) (Read p t), last_summand depth inside s (Read p t) h e)

      split : (o : Got Term) → IsSequence depth inside s o → Has (AreSummands depth inside s)
      split (Read p t) h = next p t h (plus-or-not (sign t.text))
      split (Bad e at) h = (gathered (λ p. p ∷ []) (Bad e at), last_summand depth inside s (Bad e at) h tt)

  policy-some : Has (IsPolicy depth inside s)
  policy-some = let r = summands-some in (gathered sum_of r.0, sum depth inside s r.0 r.1)

all-below : (n : ℕ) → Below n
all-below zero = record {
  policy = λ d i s h. absurd (omega (arith, h));
  summands = λ d i s h. absurd (omega (arith, h));
  factors = λ d i s h. absurd (omega (arith, h));
  unary = λ d i s h. absurd (omega (arith, h));
}
all-below (suc n) = more (all-below n)
  where
    more : Below n → Below (suc n)
    more b = record {
      policy = λ d i s h. policy-some n b d i s (omega (arith, h));
      summands = λ d i s h. summands-some n b d i s (omega (arith, h));
      factors = λ d i s h. factors-some n b d i s (omega (arith, h));
      unary = λ d i s h. unary-some n b d i s (omega (arith, h));
    }

-- what reading a text gives
pub reading-some : (text : List ℕ) → (o : Got Term) × IsReading text o
reading-some text =
    let s = first_spot text in
    let w = (all-below (suc (length s.text))).policy 0 false s (omega arith) in
    (ended w.0, (w.0, w.1, refl))

-- a policy, or a fault at its position
pub read-or-fault : (begin : Position) (text : List ℕ) → ((p : Term) × IsText text p) ⊎ ((f : ParseFault) × HasFault begin text f)
read-or-fault begin text = let r = reading-some text in split r.0 r.1
  where
    split : (o : Got Term) → IsReading text o → ((p : Term) × IsText text p) ⊎ ((f : ParseFault) × HasFault begin text f)
    split (Read p s) h = inl (p, (s, h))
    split (Bad e at) h =
        let end = end-fault text e at h in
        let position = position_after begin end.front in
        inr (record { fault = e; line = position.line; column = position.column }, record { front = end.front; at = at; parts = end.parts; first = h; position = refl })
