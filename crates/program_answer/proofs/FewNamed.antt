-- A policy whose pairs of field and value are within the limits of policy text names few values.
use Rattle.std.proofs.Common.{◌≡◌, ◌≢◌, ℕ, ◌+◌, ◌≤◌, ◌⊎◌, inl, inr, true, false, cond, ◌==◌, ◌||◌, List, [], ◌∷◌, ◌++◌, length, refl, sym, ap, ◌∙◌, subst, arith}
use Rattle.std.proofs.lemmas.Bool.{cases_lt, cases_Bool, and_parts}
use Rattle.std.proofs.lemmas.Bool.Decides.{Decides-eqb}
use Rattle.nk_values.specs.declared.field.Field.{Field}
use Rattle.nk_values.specs.declared.field.Field.TheVariants.{Sw, Pt, EthTyp, IpProto, EthSrc, EthDst, Ip4Src, Ip4Dst, TcpSrcPort, TcpDstPort}
use Rattle.nk_values.specs.declared.lit.Lit.{Lit}
use Rattle.nk_values.specs.Lits.{lit_field, lit_value}
use Rattle.nk_values.specs.Members.{IsIn}
use Rattle.nk_values.specs.Ranges.{place, least_value, least_literal, greatest, IsLiteralOf}
use Rattle.nk_values.proofs.LitLaws.{same_lit}
use Rattle.nk_values.proofs.MemberLaws.{in-left, in-right}
use Rattle.nk_values.proofs.PacketLaws.{same_field}
use Rattle.nk_syntax.specs.Terms.{Guard, Guards, One, Zero, Test, Or, And, Not, no_guards, guard, Term, Terms, Filter, Assign, Sum, Seq, Star, Dup, no_terms, term}
use Rattle.netkat_parser.specs.Grammar.{is_named, is_pair, with_pair}
use Rattle.netkat_parser.specs.Printed.{guard_named, guards_named, term_named, terms_named, IsRoomy}
use Rattle.fdd_compile.specs.Named.{GuardTests, GuardsTest, TermTests, TermsTest, TermAssigns, TermsAssign, TermNames, AreFewNamed}

abbrev Pairs : Type 0
Pairs = List (Field × ℕ)

-- whether the number is a literal of the field

no-tag : (f : Field) (n : ℕ) → (f ≡ EthTyp → n ≢ 33024) ⊎ ((f ≡ EthTyp) × (n ≡ 33024))
no-tag EthTyp n = elim (cases_Bool (n == 33024)) [
  | inl e ↦ inr (refl, (Decides-eqb n 33024).0 e)
  | inr e ↦ inl (λ _ h. let k : false ≡ true = sym e ∙ (Decides-eqb n 33024).1 h in cc)
]
no-tag Sw n = inl (λ e. absurd (cc))
no-tag Pt n = inl (λ e. absurd (cc))
no-tag IpProto n = inl (λ e. absurd (cc))
no-tag EthSrc n = inl (λ e. absurd (cc))
no-tag EthDst n = inl (λ e. absurd (cc))
no-tag Ip4Src n = inl (λ e. absurd (cc))
no-tag Ip4Dst n = inl (λ e. absurd (cc))
no-tag TcpSrcPort n = inl (λ e. absurd (cc))
no-tag TcpDstPort n = inl (λ e. absurd (cc))

is-literal : (f : Field) (n : ℕ) → IsLiteralOf f n ⊎ (¬ IsLiteralOf f n)
is-literal f n = elim (cases_lt n (least_value f)) [
  | inl h ↦ inr (λ l. omega (arith, h, l.value.low))
  | inr low ↦ elim (cases_lt (greatest f) n) [
    | inl h ↦ inr (λ l. omega (arith, h, l.value.high))
    | inr high ↦ elim (cases_lt n (least_literal f)) [
      | inl h ↦ inr (λ l. omega (arith, h, l.low))
      | inr least ↦ elim (no-tag f n) [
        | inl t ↦ inl (record { value = record { low = low; high = high; no_tag = t }; low = least })
        | inr t ↦ inr (λ l. l.value.no_tag t.0 t.1)
      ]
    ]
  ]
]

-- the literals among the pairs
abbrev with-lit : (f : Field) (n : ℕ) → IsLiteralOf f n ⊎ (¬ IsLiteralOf f n) → List Lit → List Lit
with-lit f n (inl l) ls = record { field = f; value = n; literal = l } ∷ ls
with-lit f n (inr l) ls = ls

abbrev lits : Pairs → List Lit
lits [] = []
lits (x ∷ xs) = with-lit x.0 x.1 (is-literal x.0 x.1) (lits xs)

with-lit-length : (f : Field) (n : ℕ) (d : IsLiteralOf f n ⊎ (¬ IsLiteralOf f n)) (ls : List Lit) → length (with-lit f n d ls) ≤ 1 + length ls
with-lit-length f n (inl l) ls = omega arith
with-lit-length f n (inr l) ls = omega arith

lits-length : (xs : Pairs) → length (lits xs) ≤ length xs
lits-length [] = omega arith
lits-length (x ∷ xs) = let a = with-lit-length x.0 x.1 (is-literal x.0 x.1) (lits xs) in let b = lits-length xs in omega (arith, a, b)

with-lit-here : (l : Lit) (d : IsLiteralOf (lit_field l) (lit_value l) ⊎ (¬ IsLiteralOf (lit_field l) (lit_value l))) (ls : List Lit) → IsIn (with-lit (lit_field l) (lit_value l) d ls) l
with-lit-here l (inl k) ls = inl (same_lit (record { field = lit_field l; value = lit_value l; literal = k }) l refl refl)
with-lit-here l (inr k) ls = absurd (k l.literal)

with-lit-there : (l : Lit) (f : Field) (n : ℕ) (d : IsLiteralOf f n ⊎ (¬ IsLiteralOf f n)) (ls : List Lit) → IsIn ls l → IsIn (with-lit f n d ls) l
with-lit-there l f n (inl k) ls h = inr h
with-lit-there l f n (inr k) ls h = h

in-lits : (xs : Pairs) (l : Lit) → IsIn xs (lit_field l, lit_value l) → IsIn (lits xs) l
in-lits [] l h = h
in-lits (x ∷ xs) l (inl e) = subst (λ (y : Field × ℕ). IsIn (with-lit y.0 y.1 (is-literal y.0 y.1) (lits xs)) l) (sym e) (with-lit-here l (is-literal (lit_field l) (lit_value l)) (lits xs))
in-lits (x ∷ xs) l (inr h) = with-lit-there l x.0 x.1 (is-literal x.0 x.1) (lits xs) (in-lits xs l h)

-- what a policy names is among its pairs

pair-there : (f : Field) (n : ℕ) (xs : Pairs) → is_named xs f n ≡ true → IsIn xs (f, n)
pair-there f n [] e = let k : false ≡ true = e in absurd (cc)
pair-there f n (x ∷ xs) e = elim (cases_Bool (is_pair f n x)) [
  | inl h ↦
      let parts = and_parts (place f == place x.0) (n == x.1) h in
      let a : f ≡ x.0 = same_field f x.0 ((Decides-eqb (place f) (place x.0)).0 parts.0) in
      let b : n ≡ x.1 = (Decides-eqb n x.1).0 parts.1 in
      inl (λ i. (sym a i, sym b i))
  | inr h ↦ inr (pair-there f n xs (sym (ap (λ t. t || is_named xs f n) h) ∙ e))
]

with-kept : (xs : Pairs) (f : Field) (n : ℕ) (y : Field × ℕ) → IsIn xs y → IsIn (with_pair xs f n) y
with-kept xs f n y h = elim (cases_Bool (is_named xs f n)) [
  | inl e ↦ subst (λ t. IsIn (cond t xs (xs ++ (f, n) ∷ [])) y) (sym e) h
  | inr e ↦ subst (λ t. IsIn (cond t xs (xs ++ (f, n) ∷ [])) y) (sym e) (in-left xs ((f, n) ∷ []) y h)
]

with-has : (xs : Pairs) (f : Field) (n : ℕ) → IsIn (with_pair xs f n) (f, n)
with-has xs f n = elim (cases_Bool (is_named xs f n)) [
  | inl e ↦ subst (λ t. IsIn (cond t xs (xs ++ (f, n) ∷ [])) (f, n)) (sym e) (pair-there f n xs e)
  | inr e ↦ subst (λ t. IsIn (cond t xs (xs ++ (f, n) ∷ [])) (f, n)) (sym e) (in-right xs ((f, n) ∷ []) (f, n) (inl refl))
]

mutual
  guard-kept : (a : Guard) (xs : Pairs) (y : Field × ℕ) → IsIn xs y → IsIn (guard_named a xs) y
  guard-kept One xs y h = h
  guard-kept Zero xs y h = h
  guard-kept (Test f n) xs y h = with-kept xs f n y h
  guard-kept (Or as') xs y h = guards-kept as' xs y h
  guard-kept (And as') xs y h = guards-kept as' xs y h
  guard-kept (Not a) xs y h = guard-kept a xs y h

  guards-kept : (as' : Guards) (xs : Pairs) (y : Field × ℕ) → IsIn xs y → IsIn (guards_named as' xs) y
  guards-kept no_guards xs y h = h
  guards-kept (guard a as') xs y h = guards-kept as' (guard_named a xs) y (guard-kept a xs y h)

mutual
  term-kept : (p : Term) (xs : Pairs) (y : Field × ℕ) → IsIn xs y → IsIn (term_named p xs) y
  term-kept (Filter a) xs y h = guard-kept a xs y h
  term-kept (Assign f n) xs y h = with-kept xs f n y h
  term-kept (Sum ps) xs y h = terms-kept ps xs y h
  term-kept (Seq ps) xs y h = terms-kept ps xs y h
  term-kept (Star p) xs y h = term-kept p xs y h
  term-kept Dup xs y h = h

  terms-kept : (ps : Terms) (xs : Pairs) (y : Field × ℕ) → IsIn xs y → IsIn (terms_named ps xs) y
  terms-kept no_terms xs y h = h
  terms-kept (term p ps) xs y h = terms-kept ps (term_named p xs) y (term-kept p xs y h)

mutual
  guard-has : (a : Guard) (xs : Pairs) (f : Field) (n : ℕ) → GuardTests a f n → IsIn (guard_named a xs) (f, n)
  guard-has One xs f n h = absurd h
  guard-has Zero xs f n h = absurd h
  guard-has (Test g m) xs f n h = subst (λ (y : Field × ℕ). IsIn (with_pair xs g m) y) (λ i. (h.0 i, h.1 i)) (with-has xs g m)
  guard-has (Or as') xs f n h = guards-have as' xs f n h
  guard-has (And as') xs f n h = guards-have as' xs f n h
  guard-has (Not a) xs f n h = guard-has a xs f n h

  guards-have : (as' : Guards) (xs : Pairs) (f : Field) (n : ℕ) → GuardsTest as' f n → IsIn (guards_named as' xs) (f, n)
  guards-have no_guards xs f n h = absurd h
  guards-have (guard a as') xs f n (inl h) = guards-kept as' (guard_named a xs) (f, n) (guard-has a xs f n h)
  guards-have (guard a as') xs f n (inr h) = guards-have as' (guard_named a xs) f n h

mutual
  tests-in : (p : Term) (xs : Pairs) (f : Field) (n : ℕ) → TermTests p f n → IsIn (term_named p xs) (f, n)
  tests-in (Filter a) xs f n h = guard-has a xs f n h
  tests-in (Assign g m) xs f n h = absurd h
  tests-in (Sum ps) xs f n h = all-tests-in ps xs f n h
  tests-in (Seq ps) xs f n h = all-tests-in ps xs f n h
  tests-in (Star p) xs f n h = tests-in p xs f n h
  tests-in Dup xs f n h = absurd h

  all-tests-in : (ps : Terms) (xs : Pairs) (f : Field) (n : ℕ) → TermsTest ps f n → IsIn (terms_named ps xs) (f, n)
  all-tests-in no_terms xs f n h = absurd h
  all-tests-in (term p ps) xs f n (inl h) = terms-kept ps (term_named p xs) (f, n) (tests-in p xs f n h)
  all-tests-in (term p ps) xs f n (inr h) = all-tests-in ps (term_named p xs) f n h

mutual
  assigns-in : (p : Term) (xs : Pairs) (f : Field) (n : ℕ) → TermAssigns p f n → IsIn (term_named p xs) (f, n)
  assigns-in (Filter a) xs f n h = absurd h
  assigns-in (Assign g m) xs f n h = subst (λ (y : Field × ℕ). IsIn (with_pair xs g m) y) (λ i. (h.0 i, h.1 i)) (with-has xs g m)
  assigns-in (Sum ps) xs f n h = all-assigns-in ps xs f n h
  assigns-in (Seq ps) xs f n h = all-assigns-in ps xs f n h
  assigns-in (Star p) xs f n h = assigns-in p xs f n h
  assigns-in Dup xs f n h = absurd h

  all-assigns-in : (ps : Terms) (xs : Pairs) (f : Field) (n : ℕ) → TermsAssign ps f n → IsIn (terms_named ps xs) (f, n)
  all-assigns-in no_terms xs f n h = absurd h
  all-assigns-in (term p ps) xs f n (inl h) = terms-kept ps (term_named p xs) (f, n) (assigns-in p xs f n h)
  all-assigns-in (term p ps) xs f n (inr h) = all-assigns-in ps (term_named p xs) f n h

pub few_named : (p : Term) → IsRoomy (term_named p []) → AreFewNamed (TermNames p)
few_named p r = record {
  names = lits (term_named p []);
  bound = let a = lits-length (term_named p []) in omega (arith, a, r.pairs);
  all = λ l h. in-lits (term_named p []) l (elim h [ inl t ↦ tests-in p [] (lit_field l) (lit_value l) t | inr t ↦ assigns-in p [] (lit_field l) (lit_value l) t ]);
}
