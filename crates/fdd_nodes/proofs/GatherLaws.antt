-- Leaves of copies that are put one by one.
use Rattle.std.proofs.Common.{◌≡◌, zero, suc, inl, inr, subst, arith, List, [], ◌∷◌, ◌++◌, Result, Ok, Err}
use Rattle.std.specs.Prelude.{IfOk}
use Rattle.std.specs.List.{Contains}
use Rattle.std.specs.List.Sorted.{IsPermutation}
use Rattle.std.proofs.lemmas.List.Sorted.{Contains-permutation, IsPermutation-sym}
use Rattle.nk_values.specs.declared.lit.Lit.{Lit}
use Rattle.nk_values.specs.Members.{IsIn, SameMembers}
use Rattle.nk_values.proofs.MemberLaws.{in-left, in-right, in-either}
use Rattle.fdd_nodes.specs.Copies.{PutsCopy}

pub same_itself : {X : Type 0} (xs : List X) → SameMembers xs xs
same_itself xs = record { front = λ x h. h; back = λ x h. h }

pub same_as : {X : Type 0} (xs ys : List X) → xs ≡ ys → SameMembers xs ys
same_as xs ys e = subst (SameMembers xs) e (same_itself xs)

pub same_on : {X : Type 0} (xs ys zs : List X) → SameMembers xs ys → SameMembers ys zs → SameMembers xs zs
same_on xs ys zs h k = record { front = λ x i. k.front x (h.front x i); back = λ x i. h.back x (k.back x i) }

pub same_put : (cs ds es : List (List Lit)) (c : List Lit) → SameMembers cs ds → PutsCopy c cs es → SameMembers es (ds ++ c ∷ [])
same_put cs ds es c s p = record {
  front = λ x h. elim (p.only x h) [ inl w ↦ in-left ds (c ∷ []) x (s.front x w) | inr e ↦ in-right ds (c ∷ []) x (inl e) ];
  back = λ x h. elim (in-either ds (c ∷ []) x h) [
    | inl w ↦ p.kept x (s.back x w)
    | inr w ↦ elim w [ inl e ↦ subst (IsIn es) e p.has | inr n ↦ absurd n ]
  ];
}

-- the same elements in another order

in_contains : {X : Type 0} (xs : List X) (x : X) → IsIn xs x → Contains xs x
in_contains [] x h = absurd h
in_contains (y ∷ ys) x h = elim h [
  | inl e ↦ (0, omega arith, e)
  | inr n ↦ let w = in_contains ys x n in (suc w.0, (let b = w.1 in omega (arith, b)), w.2)
]

contains_in : {X : Type 0} (xs : List X) (x : X) → Contains xs x → IsIn xs x
contains_in [] x h = absurd (let b = h.1 in omega (arith, b))
contains_in (y ∷ ys) x (zero, b, e) = inl e
contains_in (y ∷ ys) x (suc k, b, e) = inr (contains_in ys x (k, omega (arith, b), e))

pub same_sorted : {X : Type 0} (xs ys zs : List X) → IsPermutation xs ys → SameMembers zs ys → SameMembers zs xs
same_sorted xs ys zs p s = record {
  front = λ x h. contains_in xs x (Contains-permutation ys xs x (IsPermutation-sym xs ys p) (in_contains ys x (s.front x h)));
  back = λ x h. s.back x (contains_in ys x (Contains-permutation xs ys x p (in_contains xs x h)));
}

-- what follows from what holds if a call succeeds

pub if_ok : {A E : Type 0} (P Q : A → Type 0) (r : Result A E) → ((x : A) → P x → Q x) → IfOk r P → IfOk r Q
if_ok P Q (Ok x) f h = f x h
if_ok P Q (Err e) f h = tt
