-- Texts sorted, and equal ones once.
use Rattle.std.proofs.Common.{◌≡◌, ℕ, suc, inl, inr, List, [], ◌∷◌, ◌++◌, map, refl, sym, ◌∙◌, subst, arith, String, string_bytes, true}
use Rattle.std.proofs.lemmas.Bool.Decides.{Decides-eqb}
use Rattle.std.proofs.lemmas.List.Kept.{Any-dedup, Contains-from_dedup, IsStrictlySortedBy-dedup}
use Rattle.std.proofs.lemmas.List.Sorted.{Contains-permutation, IsPermutation-sym}
use Rattle.std.proofs.lemmas.Slice.Eq.{slice_eq-Decides}
use Rattle.std.specs.Cmp.Lexicographic.{texts_ties}
use Rattle.std.specs.declared.alloc.Global.{Global}
use Rattle.std.specs.List.{Contains, dedup}
use Rattle.std.specs.List.Sorted.{IsPermutation, IsSorted, IsStrictlySortedBy}
use Rattle.std.specs.String.{string_cmp, string_cmp_total, string_eq, string_eq_equiv}
use Rattle.nk_values.specs.Members.{IsIn, SameMembers}
use Rattle.nk_values.specs.Trails.{Trail}
use Rattle.topology_model.proofs.Ranges.{in-get_or}
use Rattle.nk_values.proofs.MemberLaws.{in-map, from-map}
use Rattle.value_text.specs.Histories.{history_text}
use Rattle.value_text.specs.Traces.{Ascends, AreLinesOf}

-- an element at some place, and the other way round
pub from-contains : {X : Type 0} (xs : List X) (x : X) → Contains xs x → IsIn xs x
from-contains xs x (k, l, e) = subst (λ y. IsIn xs y) e (in-get_or xs k x l)

pub to-contains : {X : Type 0} (xs : List X) (x : X) → IsIn xs x → Contains xs x
to-contains [] x m = absurd m
to-contains (y ∷ ys) x (inl e) = (0, omega arith, e)
to-contains (y ∷ ys) x (inr m) = let r = to-contains ys x m in (suc r.0, omega (arith, r.1), r.2)

ascending : (xs : List (String Global)) → IsStrictlySortedBy string_cmp xs → Ascends (map string_bytes xs)
unfolding IsStrictlySortedBy
ascending [] h = tt
ascending (x ∷ []) h = tt
ascending (x ∷ y ∷ ys) h = (h.0.0, ascending (y ∷ ys) h.1)

pub ascends : (xs : List (String Global)) → IsSorted string_cmp xs → Ascends (map string_bytes (dedup string_eq xs))
ascends xs h = ascending (dedup string_eq xs) (IsStrictlySortedBy-dedup string_cmp_total (λ x y. texts_ties (string_bytes x) (string_bytes y)) xs h)

same_text : (x y : String Global) → string_eq x y ≡ true → string_bytes x ≡ string_bytes y
same_text x y e = (slice_eq-Decides (λ a b. Decides-eqb a b) (string_bytes x) (string_bytes y) (string_eq x y) refl).0 e

-- the texts stay the same when their order changes and equal ones go
pub same_texts : (old sorted : List (String Global)) → IsPermutation old sorted → SameMembers (map string_bytes (dedup string_eq sorted)) (map string_bytes old)
same_texts old sorted moved = record {
  front = λ l m.
      let r = from-map string_bytes (dedup string_eq sorted) l m in
      let k = Contains-permutation sorted old r.0 (IsPermutation-sym old sorted moved) (Contains-from_dedup string_eq sorted r.0 (to-contains (dedup string_eq sorted) r.0 r.1)) in
      subst (λ t. IsIn (map string_bytes old) t) r.2 (in-map string_bytes old r.0 (from-contains old r.0 k));
  back = λ l m.
      let r = from-map string_bytes old l m in
      let k = Contains-permutation old sorted r.0 moved (to-contains old r.0 r.1) in
      let a = Any-dedup string_eq_equiv sorted r.0 k in
      let among : IsIn (dedup string_eq sorted) a.1 = from-contains (dedup string_eq sorted) a.1 (a.0, a.2, a.3) in
      subst (λ t. IsIn (map string_bytes (dedup string_eq sorted)) t) (sym (same_text r.0 a.1 a.4) ∙ r.2) (in-map string_bytes (dedup string_eq sorted) a.1 among);
}

-- lines in order with the members of all lines
pub lines_of : (head : List ℕ) (hs : List Trail) (all now : List (List ℕ)) → all ≡ map (λ h. head ++ history_text h) hs → Ascends now → SameMembers now all → AreLinesOf head hs now
lines_of head hs all now e order same = record {
  order = order;
  each = λ l m.
      let r = from-map (λ (h : Trail). head ++ history_text h) hs l (subst (λ ls. IsIn ls l) e (same.front l m)) in
      (r.0, r.1, sym r.2);
  all = λ h m. same.back (head ++ history_text h) (subst (λ ls. IsIn ls (head ++ history_text h)) (sym e) (in-map (λ (h : Trail). head ++ history_text h) hs h m));
}
