-- The pairs that a text's policy names are those of the spot after it, and within the limits.
use Rattle.std.proofs.Common.{◌≡◌, ℕ, ◌+◌, ◌≤◌, inl, inr, Bool, true, false, not, cond, ◌&&◌, ◌||◌, ◌==◌, nat_le, List, [], ◌∷◌, ◌++◌, length, Option, Some, None, refl, sym, ap, ◌∙◌, subst, arith, length-append}
use Rattle.std.proofs.lemmas.Bool.Decides.{nat_tests}
use Rattle.nk_values.specs.declared.field.Field.{Field}
use Rattle.nk_values.specs.declared.field.Field.TheVariants.{IpProto}
use Rattle.nk_values.specs.Ranges.{place}
use Rattle.nk_syntax.specs.Terms.{Test, Term, Terms, Filter, Assign, Sum, Seq, Star, Dup, no_terms, term}
use Rattle.nk_syntax.specs.Views.{term_row}
use Rattle.nk_values.specs.declared.text_fault.TextFault.TheVariants as fault
use Rattle.netkat_parser.specs.declared.sign.Sign.{Sign}
use Rattle.netkat_parser.specs.declared.sign.Sign.TheVariants as sign
use Rattle.netkat_parser.specs.Signs.{past, run, past_run}
use Rattle.netkat_parser.specs.Signs as signs
use Rattle.netkat_parser.specs.Numbers.{number}
use Rattle.netkat_parser.specs.Printed.{IsRoomy, guard_named, guards_named, term_named, terms_named}
use Rattle.netkat_parser.specs.Grammar.{Spot, Got, Read, Bad, step, gathered, negated, taken, all_taken, sum_of, seq_of, closed, closed_by, starred, starred_by, ended, ended_by, first_spot, is_named, is_too_many, with_pair, protos, literal, IsNumber, IsRun, IsPair, IsLeaf, IsPolicy, AreSummands, IsSequence, AreFactors, IsUnary, IsAtom, IsText, sum, last_summand, more_summands, sequence, last_factor, more_factors, negation, post, bracket, leaf}
use Rattle.netkat_parser.proofs.Rooms.{protos-push}

abbrev Names : Type 0
Names = List (Field × ℕ)

-- no assignment, star or dup
abbrev mutual
  IsPure : Term → Type 0
  IsPure (Filter a) = Unit {0}
  IsPure (Assign f n) = ⊥
  IsPure (Sum ps) = ArePure ps
  IsPure (Seq ps) = ArePure ps
  IsPure (Star p) = ⊥
  IsPure Dup = ⊥

  ArePure : Terms → Type 0
  ArePure no_terms = Unit {0}
  ArePure (term p ps) = IsPure p × ArePure ps

mutual
  pure-named : (p : Term) (named : Names) → IsPure p → guard_named (taken p) named ≡ term_named p named
  pure-named (Filter a) named h = refl
  pure-named (Assign f n) named h = absurd h
  pure-named (Sum ps) named h = all-pure-named ps named h
  pure-named (Seq ps) named h = all-pure-named ps named h
  pure-named (Star p) named h = absurd h
  pure-named Dup named h = absurd h

  all-pure-named : (ps : Terms) (named : Names) → ArePure ps → guards_named (all_taken ps) named ≡ terms_named ps named
  all-pure-named no_terms named h = refl
  all-pure-named (term p ps) named h = ap (guards_named (all_taken ps)) (pure-named p named h.0) ∙ all-pure-named ps (term_named p named) h.1

-- what was read names the pairs after it, within the limits, and inside a `not` it is pure
record IsNamed (inside : Bool) (before : Names) (p : Term) (after : Names) : Type 0 where
  names : after ≡ term_named p before
  roomy : IsRoomy before → IsRoomy after
  pure : inside ≡ true → IsPure p

abbrev NamedPairs : Bool → Spot → Got Term → Type 0
NamedPairs inside s (Read p t) = IsNamed inside s.named p t.named
NamedPairs inside s (Bad e at) = Unit {0}

record AreNamed (inside : Bool) (before : Names) (ps : List Term) (after : Names) : Type 0 where
  names : after ≡ terms_named (term_row ps) before
  roomy : IsRoomy before → IsRoomy after
  pure : inside ≡ true → ArePure (term_row ps)

abbrev AllNamed : Bool → Spot → Got (List Term) → Type 0
AllNamed inside s (Read ps t) = AreNamed inside s.named ps t.named
AllNamed inside s (Bad e at) = Unit {0}

-- one more pair, where there is room
below : (n high : ℕ) → nat_le high n ≡ false → n + 1 ≤ high
below n high h = grind (arith, nat_tests)

left-false : (a b : Bool) → (a || b) ≡ false → a ≡ false
left-false false b h = refl
left-false true b h = h

right-false : (a b : Bool) → (a || b) ≡ false → b ≡ false
right-false false b h = h
right-false true b h = absurd (cc)

proto-below : (p : Bool) (k : ℕ) → k ≤ 100 → (p && nat_le 100 k) ≡ false → k + cond p 1 0 ≤ 100
proto-below true k h e = below k 100 e
proto-below false k h e = omega (arith, h)

more-by : (b : Bool) (named : Names) (f : Field) (n : ℕ)
    → (not b && (nat_le 2000 (length named) || ((place f == place IpProto) && nat_le 100 (protos named)))) ≡ false
    → IsRoomy named → IsRoomy (cond b named (named ++ (f, n) ∷ []))
more-by true named f n e h = h
more-by false named f n e h =
    let proto = proto-below (place f == place IpProto) (protos named) h.protos (right-false _ _ e) in
    let full = below (length named) 2000 (left-false _ _ e) in
    record {
      pairs = omega (arith, full, length-append named ((f, n) ∷ []));
      protos = omega (arith, proto, protos-push named f n);
    }

pair-roomy : (named : Names) (f : Field) (n : ℕ) → is_too_many named f n ≡ false → IsRoomy named → IsRoomy (with_pair named f n)
pair-roomy named f n e h = more-by (is_named named f n) named f n e h

-- a pair in a policy
record IsMade (inside : Bool) (f : Field) (make : ℕ → Term) : Type 0 where
  names : (n : ℕ) (named : Names) → with_pair named f n ≡ term_named (make n) named
  pure : inside ≡ true → (n : ℕ) → IsPure (make n)

literal-by : (inside : Bool) (f : Field) (make : ℕ → Term) (s : Spot) (n : ℕ) (b : Bool) → is_too_many s.named f n ≡ b → IsMade inside f make
    → NamedPairs inside s (cond b (Bad fault.TooManyValues s.text) (Read (make n) (record { text = past_run s.text; named = with_pair s.named f n })))
literal-by inside f make s n true e m = tt
literal-by inside f make s n false e m = record {
  names = m.names n s.named;
  roomy = pair-roomy s.named f n e;
  pure = λ i. m.pure i n;
}

literal-named : (inside : Bool) (f : Field) (make : ℕ → Term) (s : Spot) (n : ℕ) → IsMade inside f make → NamedPairs inside s (literal f make s n)
literal-named inside f make s n m = literal-by inside f make s n (is_too_many s.named f n) refl m

along : (inside : Bool) (s : Spot) (o o' : Got Term) → o ≡ o' → NamedPairs inside s o' → NamedPairs inside s o
along inside s o o' e h = subst (NamedPairs inside s) (sym e) h

number-named : (inside : Bool) (f : Field) (make : ℕ → Term) (s : Spot) (n : Option ℕ) (o : Got Term) → IsMade inside f make → IsNumber f make s n o → NamedPairs inside s o
number-named inside f make s None o m h = along inside s o _ h tt
number-named inside f make s (Some n) o m (inl h) = along inside s o _ h.1 (literal-named inside f make s n m)
number-named inside f make s (Some n) o m (inr h) = along inside s o _ h.1 tt

run-named : (depth : ℕ) (inside : Bool) (f : Field) (make : ℕ → Term) (s : Spot) (r : List ℕ) (o : Got Term) → IsMade inside f make → IsRun depth f make s r o → NamedPairs inside s o
run-named depth inside f make s [] o m h = along inside s o _ h tt
run-named depth inside f make s (b ∷ bs) o m h = number-named inside f make s (number f (b ∷ bs)) o m h

made-test : (inside : Bool) (f : Field) → IsMade inside f (λ n. Filter (Test f n))
made-test inside f = record { names = λ n named. refl; pure = λ i n. tt }

made-assign : (f : Field) → IsMade false f (Assign f)
made-assign f = record { names = λ n named. refl; pure = λ i n. absurd (cc) }

pair-named : (depth : ℕ) (inside : Bool) (f : Field) (s : Spot) (t : Sign) (o : Got Term) → IsPair depth inside f s t o → NamedPairs inside s o
pair-named depth false f s sign.Equals o h = run-named depth false f (λ n. Filter (Test f n)) (step s) (run (past s.text)) o (made-test false f) h
pair-named depth true f s sign.Equals o h = run-named depth true f (λ n. Filter (Test f n)) (step s) (run (past s.text)) o (made-test true f) h
pair-named depth false f s sign.Becomes o h = run-named depth false f (Assign f) (step s) (run (past s.text)) o (made-assign f) h
pair-named depth true f s sign.Becomes o h = along true s o _ h tt
pair-named depth false f s t o h = along false s o _ h tt
pair-named depth true f s t o h = along true s o _ h tt

leaf-named : (depth : ℕ) (inside : Bool) (s : Spot) (t : Sign) (o : Got Term) → IsLeaf depth inside s t o → NamedPairs inside s o
leaf-named depth false s sign.Skip o h = along false s o _ h (record { names = refl; roomy = λ r. r; pure = λ i. tt })
leaf-named depth true s sign.Skip o h = along true s o _ h (record { names = refl; roomy = λ r. r; pure = λ i. tt })
leaf-named depth false s sign.Drop o h = along false s o _ h (record { names = refl; roomy = λ r. r; pure = λ i. tt })
leaf-named depth true s sign.Drop o h = along true s o _ h (record { names = refl; roomy = λ r. r; pure = λ i. tt })
leaf-named depth false s sign.Dup o h = along false s o _ h (record { names = refl; roomy = λ r. r; pure = λ i. absurd (cc) })
leaf-named depth false s (sign.Name f) o h = pair-named depth false f (step s) (signs.sign (past s.text)) o h
leaf-named depth true s (sign.Name f) o h = pair-named depth true f (step s) (signs.sign (past s.text)) o h
leaf-named depth false s t o h = along false s o _ h tt
leaf-named depth true s t o h = along true s o _ h tt

closed-by : (inside : Bool) (s : Spot) (depth : ℕ) (p : Term) (t : Spot) (m : Sign) → IsNamed inside s.named p t.named → NamedPairs inside s (closed_by depth p t m)
closed-by inside s depth p t sign.Close h = h
closed-by inside s depth p t m h = tt

closed-named : (inside : Bool) (s : Spot) (depth : ℕ) (o : Got Term) → NamedPairs inside s o → NamedPairs inside s (closed depth o)
closed-named inside s depth (Read p t) h = closed-by inside s depth p t (signs.sign t.text) h
closed-named inside s depth (Bad e at) h = tt

starred-by : (inside : Bool) (s : Spot) (p : Term) (t : Spot) (m : Sign) → IsNamed inside s.named p t.named → NamedPairs inside s (starred_by inside p t m)
starred-by false s p t sign.Star h = record { names = h.names; roomy = h.roomy; pure = λ i. absurd (cc) }
starred-by true s p t sign.Star h = tt
starred-by false s p t m h = h
starred-by true s p t m h = h

starred-named : (inside : Bool) (s : Spot) (o : Got Term) → NamedPairs inside s o → NamedPairs inside s (starred inside o)
starred-named inside s (Read p t) h = starred-by inside s p t (signs.sign t.text) h
starred-named inside s (Bad e at) h = tt

negated-named : (inside : Bool) (s : Spot) (o : Got Term) → NamedPairs true (step s) o → NamedPairs inside s (gathered negated o)
negated-named inside s (Read p t) h = record {
  names = h.names ∙ sym (pure-named p s.named (h.pure refl));
  roomy = h.roomy;
  pure = λ i. tt;
}
negated-named inside s (Bad e at) h = tt

one-named : (inside : Bool) (s : Spot) (o : Got Term) → NamedPairs inside s o → AllNamed inside s (gathered (λ p. p ∷ []) o)
one-named inside s (Read p t) h = record { names = h.names; roomy = h.roomy; pure = λ i. (h.pure i, tt) }
one-named inside s (Bad e at) h = tt

more-named : (inside : Bool) (s : Spot) (p : Term) (t : Spot) (o : Got (List Term)) → IsNamed inside s.named p t.named → AllNamed inside (step t) o
    → AllNamed inside s (gathered (λ ps. p ∷ ps) o)
more-named inside s p t (Read ps u) h k = record {
  names = k.names ∙ ap (terms_named (term_row ps)) h.names;
  roomy = λ r. k.roomy (h.roomy r);
  pure = λ i. (h.pure i, k.pure i);
}
more-named inside s p t (Bad e at) h k = tt

sum-named : (inside : Bool) (s : Spot) (o : Got (List Term)) → AllNamed inside s o → NamedPairs inside s (gathered sum_of o)
sum-named inside s (Read [] t) h = record { names = h.names; roomy = h.roomy; pure = h.pure }
sum-named inside s (Read (p ∷ []) t) h = record { names = h.names; roomy = h.roomy; pure = λ i. (h.pure i).0 }
sum-named inside s (Read (p ∷ q ∷ ps) t) h = record { names = h.names; roomy = h.roomy; pure = h.pure }
sum-named inside s (Bad e at) h = tt

seq-named : (inside : Bool) (s : Spot) (o : Got (List Term)) → AllNamed inside s o → NamedPairs inside s (gathered seq_of o)
seq-named inside s (Read [] t) h = record { names = h.names; roomy = h.roomy; pure = h.pure }
seq-named inside s (Read (p ∷ []) t) h = record { names = h.names; roomy = h.roomy; pure = λ i. (h.pure i).0 }
seq-named inside s (Read (p ∷ q ∷ ps) t) h = record { names = h.names; roomy = h.roomy; pure = h.pure }
seq-named inside s (Bad e at) h = tt

mutual
  policy-named : (depth : ℕ) (inside : Bool) (s : Spot) (o : Got Term) → IsPolicy depth inside s o → NamedPairs inside s o
  policy-named depth inside s o (sum d i t q h) = sum-named i t q (summands-named d i t q h)

  summands-named : (depth : ℕ) (inside : Bool) (s : Spot) (o : Got (List Term)) → AreSummands depth inside s o → AllNamed inside s o
  summands-named depth inside s o (last_summand d i t q h e) = one-named i t q (sequence-named d i t q h)
  summands-named depth inside s o (more_summands d i t p u q h e k) = more-named i t p u q (sequence-named d i t (Read p u) h) (summands-named d i (step u) q k)

  sequence-named : (depth : ℕ) (inside : Bool) (s : Spot) (o : Got Term) → IsSequence depth inside s o → NamedPairs inside s o
  sequence-named depth inside s o (sequence d i t q h) = seq-named i t q (factors-named d i t q h)

  factors-named : (depth : ℕ) (inside : Bool) (s : Spot) (o : Got (List Term)) → AreFactors depth inside s o → AllNamed inside s o
  factors-named depth inside s o (last_factor d i t q h e) = one-named i t q (unary-named d i t q h)
  factors-named depth inside s o (more_factors d i t p u q h e k) = more-named i t p u q (unary-named d i t (Read p u) h) (factors-named d i (step u) q k)

  unary-named : (depth : ℕ) (inside : Bool) (s : Spot) (o : Got Term) → IsUnary depth inside s o → NamedPairs inside s o
  unary-named depth inside s o (negation d i t q n h) = negated-named i t q (unary-named (d + 1) true (step t) q h)
  unary-named depth inside s o (post d i t q n h) = starred-named i t q (atom-named d i t q h)

  atom-named : (depth : ℕ) (inside : Bool) (s : Spot) (o : Got Term) → IsAtom depth inside s o → NamedPairs inside s o
  atom-named depth inside s o (bracket d i t q n h) = closed-named i t (d + 1) q (policy-named (d + 1) i (step t) q h)
  atom-named depth inside s o (leaf d i t q n h) = leaf-named d i t (signs.sign t.text) q h

ended-by : (s : Spot) (p : Term) (t : Spot) (m : Sign) → IsNamed false s.named p t.named → NamedPairs false s (ended_by p t m)
ended-by s p t sign.End h = h
ended-by s p t m h = tt

ended-named : (s : Spot) (o : Got Term) → NamedPairs false s o → NamedPairs false s (ended o)
ended-named s (Read p t) h = ended-by s p t (signs.sign t.text) h
ended-named s (Bad e at) h = tt

nothing-roomy : IsRoomy []
nothing-roomy = record { pairs = omega arith; protos = omega arith }

pub text-few : (text : List ℕ) (p : Term) → IsText text p → IsRoomy (term_named p [])
text-few text p h =
    let whole = policy-named 0 false (first_spot text) h.1.0 h.1.1 in
    let all : NamedPairs false (first_spot text) (Read p h.0) = along false (first_spot text) (Read p h.0) _ h.1.2 (ended-named (first_spot text) h.1.0 whole) in
    subst IsRoomy all.names (all.roomy nothing-roomy)
