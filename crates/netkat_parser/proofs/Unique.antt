-- A text has one outcome.
use Rattle.std.proofs.Common.{◌≡◌, ℕ, ◌+◌, inl, inr, Bool, true, false, List, [], ◌∷◌, Option, Some, None, sym, ap, ◌∙◌, subst}
use Rattle.nk_values.specs.declared.field.Field.{Field}
use Rattle.nk_values.specs.Ranges.{IsLiteralOf}
use Rattle.nk_syntax.specs.Terms.{Term, Filter, Test, Assign}
use Rattle.netkat_parser.specs.declared.sign.Sign.{Sign}
use Rattle.netkat_parser.specs.declared.sign.Sign.TheVariants.{Name, Equals, Becomes, Plus, Semicolon}
use Rattle.netkat_parser.specs.Signs.{sign, past, run}
use Rattle.netkat_parser.specs.Numbers.{number}
use Rattle.netkat_parser.specs.Grammar.{Spot, Got, Read, step, gathered, negated, sum_of, seq_of, closed, starred, ended, first_spot, Where, EndsBefore, IsNumber, IsRun, IsPair, IsLeaf, IsPolicy, AreSummands, IsSequence, AreFactors, IsUnary, IsAtom, IsReading, IsText, sum, last_summand, more_summands, sequence, last_factor, more_factors, negation, post, bracket, leaf}

where-one : (P : Type 0) (o o' x y : Got Term) → Where P (o ≡ x) (o ≡ y) → Where P (o' ≡ x) (o' ≡ y) → o ≡ o'
where-one P o o' x y (inl h) (inl h') = h.1 ∙ sym h'.1
where-one P o o' x y (inl h) (inr h') = absurd (h'.0 h.0)
where-one P o o' x y (inr h) (inl h') = absurd (h.0 h'.0)
where-one P o o' x y (inr h) (inr h') = h.1 ∙ sym h'.1

number-one : (f : Field) (make : ℕ → Term) (s : Spot) (n : Option ℕ) (o o' : Got Term) → IsNumber f make s n o → IsNumber f make s n o' → o ≡ o'
number-one f make s None o o' h h' = h ∙ sym h'
number-one f make s (Some n) o o' h h' = where-one (IsLiteralOf f n) o o' _ _ h h'

run-one : (depth : ℕ) (f : Field) (make : ℕ → Term) (s : Spot) (r : List ℕ) (o o' : Got Term) → IsRun depth f make s r o → IsRun depth f make s r o' → o ≡ o'
run-one depth f make s [] o o' h h' = h ∙ sym h'
run-one depth f make s (b ∷ bs) o o' h h' = number-one f make s (number f (b ∷ bs)) o o' h h'

pair-one : (depth : ℕ) (inside : Bool) (f : Field) (s : Spot) (t : Sign) (o o' : Got Term) → IsPair depth inside f s t o → IsPair depth inside f s t o' → o ≡ o'
pair-one depth false f s Equals o o' h h' = run-one depth f (λ n. Filter (Test f n)) (step s) (run (past s.text)) o o' h h'
pair-one depth true f s Equals o o' h h' = run-one depth f (λ n. Filter (Test f n)) (step s) (run (past s.text)) o o' h h'
pair-one depth false f s Becomes o o' h h' = run-one depth f (Assign f) (step s) (run (past s.text)) o o' h h'
pair-one depth true f s Becomes o o' h h' = h ∙ sym h'
pair-one depth false f s t o o' h h' = h ∙ sym h'
pair-one depth true f s t o o' h h' = h ∙ sym h'

leaf-one : (depth : ℕ) (inside : Bool) (s : Spot) (t : Sign) (o o' : Got Term) → IsLeaf depth inside s t o → IsLeaf depth inside s t o' → o ≡ o'
leaf-one depth false s (Name f) o o' h h' = pair-one depth false f (step s) (sign (past s.text)) o o' h h'
leaf-one depth true s (Name f) o o' h h' = pair-one depth true f (step s) (sign (past s.text)) o o' h h'
leaf-one depth false s t o o' h h' = h ∙ sym h'
leaf-one depth true s t o o' h h' = h ∙ sym h'

-- a chain that ends there doesn't go on
ends : {X : Type 0} (t : Sign) (o : Got Term) (p : Term) (s : Spot) → EndsBefore t o → o ≡ Read p s → sign s.text ≡ t → X
ends t o p s n e k = absurd (subst (EndsBefore t) e n k)

heads : (p p' : Term) (s s' : Spot) → Read p s ≡ Read p' s' → p ≡ p'
heads p p' s s' e = cc

spots : (p p' : Term) (s s' : Spot) → Read p s ≡ Read p' s' → s ≡ s'
spots p p' s s' e = cc

in-front : (p p' : Term) (o o' : Got (List Term)) → p ≡ p' → o ≡ o' → gathered (λ ps. p ∷ ps) o ≡ gathered (λ ps. p' ∷ ps) o'
in-front p p' o o' e k = ap (λ q. gathered (λ ps. q ∷ ps) o) e ∙ ap (gathered (λ ps. p' ∷ ps)) k

mutual
  pub policy-one : (depth : ℕ) (inside : Bool) (s : Spot) (o o' : Got Term) → IsPolicy depth inside s o → IsPolicy depth inside s o' → o ≡ o'
  policy-one depth inside s o o' (sum d i t q h) (sum d' i' t' q' h') = ap (gathered sum_of) (summands-one d i t q q' h h')

  summands-one : (depth : ℕ) (inside : Bool) (s : Spot) (o o' : Got (List Term)) → AreSummands depth inside s o → AreSummands depth inside s o' → o ≡ o'
  summands-one depth inside s o o' (last_summand d i t q h e) (last_summand d' i' t' q' h' e') = ap (gathered (λ p. p ∷ [])) (sequence-one d i t q q' h h')
  summands-one depth inside s o o' (last_summand d i t q h e) (more_summands d' i' t' p' u' q' h' e' k') = ends Plus q p' u' e (sequence-one d i t q _ h h') e'
  summands-one depth inside s o o' (more_summands d i t p u q h e k) (last_summand d' i' t' q' h' e') = ends Plus q' p u e' (sym (sequence-one d i t _ q' h h')) e
  summands-one depth inside s o o' (more_summands d i t p u q h e k) (more_summands d' i' t' p' u' q' h' e' k') =
      let same = sequence-one d i t (Read p u) (Read p' u') h h' in
      in-front p p' q q' (heads p p' u u' same) (summands-one d i (step u) q q' k (subst (λ v. AreSummands d i (step v) q') (sym (spots p p' u u' same)) k'))

  sequence-one : (depth : ℕ) (inside : Bool) (s : Spot) (o o' : Got Term) → IsSequence depth inside s o → IsSequence depth inside s o' → o ≡ o'
  sequence-one depth inside s o o' (sequence d i t q h) (sequence d' i' t' q' h') = ap (gathered seq_of) (factors-one d i t q q' h h')

  factors-one : (depth : ℕ) (inside : Bool) (s : Spot) (o o' : Got (List Term)) → AreFactors depth inside s o → AreFactors depth inside s o' → o ≡ o'
  factors-one depth inside s o o' (last_factor d i t q h e) (last_factor d' i' t' q' h' e') = ap (gathered (λ p. p ∷ [])) (unary-one d i t q q' h h')
  factors-one depth inside s o o' (last_factor d i t q h e) (more_factors d' i' t' p' u' q' h' e' k') = ends Semicolon q p' u' e (unary-one d i t q _ h h') e'
  factors-one depth inside s o o' (more_factors d i t p u q h e k) (last_factor d' i' t' q' h' e') = ends Semicolon q' p u e' (sym (unary-one d i t _ q' h h')) e
  factors-one depth inside s o o' (more_factors d i t p u q h e k) (more_factors d' i' t' p' u' q' h' e' k') =
      let same = unary-one d i t (Read p u) (Read p' u') h h' in
      in-front p p' q q' (heads p p' u u' same) (factors-one d i (step u) q q' k (subst (λ v. AreFactors d i (step v) q') (sym (spots p p' u u' same)) k'))

  unary-one : (depth : ℕ) (inside : Bool) (s : Spot) (o o' : Got Term) → IsUnary depth inside s o → IsUnary depth inside s o' → o ≡ o'
  unary-one depth inside s o o' (negation d i t q n h) (negation d' i' t' q' n' h') = ap (gathered negated) (unary-one (d + 1) true (step t) q q' h h')
  unary-one depth inside s o o' (negation d i t q n h) (post d' i' t' q' n' h') = absurd (n' n)
  unary-one depth inside s o o' (post d i t q n h) (negation d' i' t' q' n' h') = absurd (n n')
  unary-one depth inside s o o' (post d i t q n h) (post d' i' t' q' n' h') = ap (starred i) (atom-one d i t q q' h h')

  atom-one : (depth : ℕ) (inside : Bool) (s : Spot) (o o' : Got Term) → IsAtom depth inside s o → IsAtom depth inside s o' → o ≡ o'
  atom-one depth inside s o o' (bracket d i t q n h) (bracket d' i' t' q' n' h') = ap (closed (d + 1)) (policy-one (d + 1) i (step t) q q' h h')
  atom-one depth inside s o o' (bracket d i t q n h) (leaf d' i' t' q' n' h') = absurd (n' n)
  atom-one depth inside s o o' (leaf d i t q n h) (bracket d' i' t' q' n' h') = absurd (n n')
  atom-one depth inside s o o' (leaf d i t q n h) (leaf d' i' t' q' n' h') = leaf-one d i t (sign t.text) q q' h h'

-- what reading a text gives
pub reading-one : (text : List ℕ) (o o' : Got Term) → IsReading text o → IsReading text o' → o ≡ o'
reading-one text o o' h h' = h.2 ∙ ap ended (policy-one 0 false (first_spot text) h.0 h'.0 h.1 h'.1) ∙ sym h'.2

pub text-one : (text : List ℕ) (p q : Term) → IsText text p → IsText text q → p ≡ q
text-one text p q h k = heads p q h.0 k.0 (reading-one text (Read p h.0) (Read q k.0) h.1 k.1)
