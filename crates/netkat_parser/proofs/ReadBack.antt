-- What is printed is read back.
use Rattle.std.proofs.Common.{◌≡◌, ℕ, ◌+◌, ◌≤◌, Bool, true, false, List, [], ◌∷◌, ◌++◌, codes, refl, sym, ap, ◌∙◌, subst, arith}
use Rattle.std.proofs.lemmas.List.{append-nil}
use Rattle.nk_syntax.specs.Terms.{Guard, Guards, One, Zero, Test, Or, And, Not, no_guards, guard, Term, Terms, Filter, Assign, Sum, Seq, Star, Dup, no_terms, term}
use Rattle.nk_syntax.specs.Views.{term_row}
use Rattle.nk_syntax.specs.Prints.{guard_text, more_guards, term_text, more_terms}
use Rattle.netkat_parser.specs.Signs.{ahead}
use Rattle.netkat_parser.specs.Grammar.{Read, IsPolicy, IsText, sum_of, seq_of, taken, all_taken}
use Rattle.netkat_parser.specs.Answers.{spot}
use Rattle.netkat_parser.specs.Printed.{HasGuardLiterals, HaveGuardLiterals, HasLiterals, HaveLiterals, IsPlainGuard, AreSomeGuards, ArePlainGuards, IsFilter, IsPlain, AreSome, ArePlain, guard_depth, guards_depth, term_depth, terms_depth, guard_named, guards_named, term_named, terms_named, IsPrintable}
use Rattle.netkat_parser.proofs.Outcomes.{whole-text}
use Rattle.netkat_parser.proofs.Rooms.{grows-guards, grows-terms}
use Rattle.netkat_parser.proofs.Back.{Backs, Row, row_end, row_more, stop_end, sequence-of, policy-of, sum-backs, seq-backs, not-backs, star-backs, skip-backs, drop-backs, dup-backs, test-backs, assignment-backs}

-- the policy that a predicate's text reads as
abbrev mutual
  as_policy : Guard → Term
  as_policy (Or as') = Sum (term_row (as_policies as'))
  as_policy (And as') = Seq (term_row (as_policies as'))
  as_policy a = Filter a

  as_policies : Guards → List Term
  as_policies no_guards = []
  as_policies (guard a as') = as_policy a ∷ as_policies as'

mutual
  taken-as : (a : Guard) → taken (as_policy a) ≡ a
  taken-as One = refl
  taken-as Zero = refl
  taken-as (Test f n) = refl
  taken-as (Or as') = ap Or (all_taken-as as')
  taken-as (And as') = ap And (all_taken-as as')
  taken-as (Not a) = refl

  all_taken-as : (as' : Guards) → all_taken (term_row (as_policies as')) ≡ as'
  all_taken-as no_guards = refl
  all_taken-as (guard a as') = rw (taken-as a, all_taken-as as') refl

some-plain : (as' : Guards) → AreSomeGuards as' → ArePlainGuards as'
some-plain no_guards h = absurd h
some-plain (guard a as') h = (h.0, h.1)

or-two : (p : Term) (as' : Guards) → AreSomeGuards as' → sum_of (p ∷ as_policies as') ≡ Sum (term_row (p ∷ as_policies as'))
or-two p no_guards h = absurd h
or-two p (guard a as') h = refl

and-two : (p : Term) (as' : Guards) → AreSomeGuards as' → seq_of (p ∷ as_policies as') ≡ Seq (term_row (p ∷ as_policies as'))
and-two p no_guards h = absurd h
and-two p (guard a as') h = refl

mutual
  guard-backs : (a : Guard) → IsPlainGuard a → HasGuardLiterals a → (depth : ℕ) (inside : Bool) → depth + guard_depth a ≤ 200 → Backs depth inside (guard_text a) (as_policy a) (guard_named a)
  guard-backs One h l depth inside deep = skip-backs depth inside
  guard-backs Zero h l depth inside deep = drop-backs depth inside
  guard-backs (Test f n) h l depth inside deep = test-backs depth inside f n l
  guard-backs (Or no_guards) h l depth inside deep = absurd h
  guard-backs (Or (guard a as')) h l depth inside deep =
      subst (λ q. Backs depth inside (guard_text (Or (guard a as'))) q (guard_named (Or (guard a as')))) (or-two (as_policy a) as' h.1)
      (sum-backs depth inside (guard_text a) (more_guards (codes " + ") as') (as_policy a) (as_policies as') (guard_named a) (guards_named as') (omega arith)
      (guard-backs a h.0 l.0 (depth + 1) inside (omega arith)) (guards-row as' (some-plain as' h.1) l.1 (depth + 1) inside (codes " + ") (omega arith)) (grows-guards as'))
  guard-backs (And no_guards) h l depth inside deep = absurd h
  guard-backs (And (guard a as')) h l depth inside deep =
      subst (λ q. Backs depth inside (guard_text (And (guard a as'))) q (guard_named (And (guard a as')))) (and-two (as_policy a) as' h.1)
      (seq-backs depth inside (guard_text a) (more_guards (codes "; ") as') (as_policy a) (as_policies as') (guard_named a) (guards_named as') (omega arith)
      (guard-backs a h.0 l.0 (depth + 1) inside (omega arith)) (guards-row as' (some-plain as' h.1) l.1 (depth + 1) inside (codes "; ") (omega arith)) (grows-guards as'))
  guard-backs (Not a) h l depth inside deep =
      subst (λ q. Backs depth inside (guard_text (Not a)) (Filter (Not q)) (guard_named a)) (taken-as a)
      (not-backs depth inside (guard_text a) (as_policy a) (guard_named a) (omega arith) (guard-backs a h l (depth + 1 + 1) true (omega arith)))

  guards-row : (as' : Guards) → ArePlainGuards as' → HaveGuardLiterals as' → (depth : ℕ) (inside : Bool) (between : List ℕ) → depth + guards_depth as' ≤ 200
      → Row depth inside between (more_guards between as') (as_policies as') (guards_named as')
  guards-row no_guards h l depth inside between deep = row_end
  guards-row (guard a as') h l depth inside between deep =
      row_more (guard_text a) (more_guards between as') (as_policy a) (as_policies as') (guard_named a) (guards_named as')
      (guard-backs a h.0 l.0 depth inside (omega arith)) (guards-row as' h.1 l.1 depth inside between (omega arith)) (grows-guards as')

filter-backs : (a : Guard) → IsFilter a → HasGuardLiterals a → (depth : ℕ) → depth + guard_depth a ≤ 200 → Backs depth false (guard_text a) (Filter a) (guard_named a)
filter-backs One h l depth deep = guard-backs One h l depth false deep
filter-backs Zero h l depth deep = guard-backs Zero h l depth false deep
filter-backs (Test f n) h l depth deep = guard-backs (Test f n) h l depth false deep
filter-backs (Or as') h l depth deep = absurd h
filter-backs (And as') h l depth deep = absurd h
filter-backs (Not a) h l depth deep = guard-backs (Not a) h l depth false deep

abbrev list_of : Terms → List Term
list_of no_terms = []
list_of (term p ps) = p ∷ list_of ps

row-list : (ps : Terms) → term_row (list_of ps) ≡ ps
row-list no_terms = refl
row-list (term p ps) = ap (term p) (row-list ps)

some-terms : (ps : Terms) → AreSome ps → ArePlain ps
some-terms no_terms h = absurd h
some-terms (term p ps) h = (h.0, h.1)

sum-two : (p : Term) (ps : Terms) → AreSome ps → sum_of (p ∷ list_of ps) ≡ Sum (term p ps)
sum-two p no_terms h = absurd h
sum-two p (term q ps) h = ap (λ rs. Sum (term p (term q rs))) (row-list ps)

seq-two : (p : Term) (ps : Terms) → AreSome ps → seq_of (p ∷ list_of ps) ≡ Seq (term p ps)
seq-two p no_terms h = absurd h
seq-two p (term q ps) h = ap (λ rs. Seq (term p (term q rs))) (row-list ps)

mutual
  term-backs : (p : Term) → IsPlain p → HasLiterals p → (depth : ℕ) → depth + term_depth p ≤ 200 → Backs depth false (term_text p) p (term_named p)
  term-backs (Filter a) h l depth deep = filter-backs a h l depth deep
  term-backs (Assign f n) h l depth deep = assignment-backs depth f n l
  term-backs (Sum no_terms) h l depth deep = absurd h
  term-backs (Sum (term p ps)) h l depth deep =
      subst (λ q. Backs depth false (term_text (Sum (term p ps))) q (term_named (Sum (term p ps)))) (sum-two p ps h.1)
      (sum-backs depth false (term_text p) (more_terms (codes " + ") ps) p (list_of ps) (term_named p) (terms_named ps) (omega arith)
      (term-backs p h.0 l.0 (depth + 1) (omega arith)) (terms-row ps (some-terms ps h.1) l.1 (depth + 1) (codes " + ") (omega arith)) (grows-terms ps))
  term-backs (Seq no_terms) h l depth deep = absurd h
  term-backs (Seq (term p ps)) h l depth deep =
      subst (λ q. Backs depth false (term_text (Seq (term p ps))) q (term_named (Seq (term p ps)))) (seq-two p ps h.1)
      (seq-backs depth false (term_text p) (more_terms (codes "; ") ps) p (list_of ps) (term_named p) (terms_named ps) (omega arith)
      (term-backs p h.0 l.0 (depth + 1) (omega arith)) (terms-row ps (some-terms ps h.1) l.1 (depth + 1) (codes "; ") (omega arith)) (grows-terms ps))
  term-backs (Star p) h l depth deep = star-backs depth (term_text p) p (term_named p) (omega arith) (term-backs p h l (depth + 1) (omega arith))
  term-backs Dup h l depth deep = dup-backs depth

  terms-row : (ps : Terms) → ArePlain ps → HaveLiterals ps → (depth : ℕ) (between : List ℕ) → depth + terms_depth ps ≤ 200
      → Row depth false between (more_terms between ps) (list_of ps) (terms_named ps)
  terms-row no_terms h l depth between deep = row_end
  terms-row (term p ps) h l depth between deep =
      row_more (term_text p) (more_terms between ps) p (list_of ps) (term_named p) (terms_named ps)
      (term-backs p h.0 l.0 depth (omega arith)) (terms-row ps h.1 l.1 depth between (omega arith)) (grows-terms ps)

-- the printed text of a policy within the limits is read as the policy
pub read-back : (p : Term) → HasLiterals p → IsPrintable p → IsText (term_text p) p
read-back p l h =
    let b = term-backs p h.plain l 0 (omega (arith, h.depth)) in
    let named = term_named p [] in
    let unary = b.reads [] [] stop_end h.values in
    let whole = policy-of 0 false (spot (term_text p ++ []) []) p (spot [] named) (sequence-of 0 false (spot (term_text p ++ []) []) p (spot [] named) unary (λ e. cc)) (λ e. cc) in
    let begins = subst (λ (y : List ℕ). ahead false y ≡ y) (append-nil (term_text p)) (b.starts []) in
    whole-text (term_text p) p (spot [] named)
    (subst (λ (y : List ℕ). IsPolicy 0 false (spot y []) (Read p (spot [] named))) (append-nil (term_text p) ∙ sym begins) whole) refl
