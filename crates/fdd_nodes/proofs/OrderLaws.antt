-- Lists of copies in strictly rising order.
use Rattle.std.specs.Prelude.{◌==◌}
use Rattle.std.proofs.Common.{Result, Ok, Err, Option, MatchOption, ◌≡◌, ℕ, zero, suc, ◌+◌, ◌<◌, ◌≤◌, inl, inr, refl, ap, sym, ◌∙◌, subst, arith, Bool, true, false, not, List, [], ◌∷◌, ◌++◌, length, take, drop, get_or, Ordering, Less, Equal, Greater}
use Rattle.std.proofs.lemmas.List.{append-nil, take-append-drop, take_all}
use Rattle.std.proofs.lemmas.List.Sorted.{searchable_from_sorted}
use Rattle.std.specs.Cmp.{IsTotalOrder}
use Rattle.std.specs.Cmp.Lexicographic.{lists_total, lists_ties, pointwise, pointwise_decides}
use Rattle.std.specs.List.{AllByRecursion}
use Rattle.std.specs.List.Sorted.{IsStrictlySortedBy, IsSortedBy, IsBinarySearchResult, IsSearchInRange}
use Rattle.std.specs.Ordering.{ordering_reverse, ordering_index, is_lt, is_eq}
use Rattle.std.specs.Result.{result_err}
use Rattle.nk_values.specs.declared.lit.Lit.{Lit}
use Rattle.nk_values.specs.Members.{IsIn}
use Rattle.nk_values.specs.Ranks.{lit_cmp}
use Rattle.nk_values.specs.contracts.lit.LitOrd.TheImpl.Laws.{total-law, matches_eq-law}
use Rattle.nk_values.proofs.LitLaws.{lit_eq-Decides}
use Rattle.fdd_nodes.specs.Copies.{copy_cmp, copy_eq, IsPlace, PutsCopy}
use Rattle.nk_values.specs.declared.packet.Packet.{Packet}
use Rattle.fdd_nodes.specs.Trees.{outcomes, SameAnswers}
use Rattle.nk_values.proofs.MemberLaws.{in-left, in-right, in-either}

copies_total : IsTotalOrder copy_cmp
copies_total = lists_total total-law

module _ {X : Type 0} where
  all_within : (P : X → Type 0) (xs : List X) → ((k : ℕ) (d : X) → k < length xs → P (get_or xs k d)) → AllByRecursion P xs
  all_within P [] h = tt
  all_within P (x ∷ xs) h = (h 0 x (omega arith), all_within P xs (λ k d l. h (suc k) d (omega (arith, l))))

  -- of the first i elements
  all_take : (P : X → Type 0) (xs : List X) (i : ℕ) → ((k : ℕ) (d : X) → k < i → P (get_or xs k d)) → i ≤ length xs → AllByRecursion P (take i xs)
  all_take P xs zero h l = tt
  all_take P [] (suc i) h l = absurd (omega (arith, l))
  all_take P (x ∷ xs) (suc i) h l = (h 0 x (omega arith), all_take P xs i (λ k d b. h (suc k) d (omega (arith, b))) (omega (arith, l)))

  -- of those after the first i
  all_drop : (P : X → Type 0) (xs : List X) (i : ℕ) → ((k : ℕ) (d : X) → i ≤ k → k < length xs → P (get_or xs k d)) → AllByRecursion P (drop i xs)
  all_drop P xs zero h = all_within P xs (λ k d l. h k d (omega arith) l)
  all_drop P [] (suc i) h = tt
  all_drop P (x ∷ xs) (suc i) h = all_drop P xs i (λ k d b l. h (suc k) d (omega (arith, b)) (omega (arith, l)))

  all_insert : (P : X → Type 0) (xs ys : List X) (x : X) → P x → AllByRecursion P (xs ++ ys) → AllByRecursion P (xs ++ x ∷ ys)
  all_insert P [] ys x p h = (p, h)
  all_insert P (y ∷ xs) ys x p h = (h.0, all_insert P xs ys x p h.1)

  all_more : (P Q : X → Type 0) (xs : List X) → ((x : X) → P x → Q x) → AllByRecursion P xs → AllByRecursion Q xs
  all_more P Q [] f h = tt
  all_more P Q (x ∷ xs) f h = (f x h.0, all_more P Q xs f h.1)

  at_index : (P : X → Type 0) (xs : List X) (i : ℕ) (d : X) → i < length xs → AllByRecursion P xs → P (get_or xs i d)
  at_index P [] i d l h = absurd (omega (arith, l))
  at_index P (x ∷ xs) zero d l h = h.0
  at_index P (x ∷ xs) (suc i) d l h = at_index P xs i d (omega (arith, l)) h.1

is_greater : (x y : List Lit) → copy_cmp x y ≡ Greater → copy_cmp y x ≡ Less
is_greater x y h = copies_total.antisymm y x ∙ ap ordering_reverse h

pub rising_insert : (xs ys : List (List Lit)) (c : List Lit) → IsStrictlySortedBy copy_cmp (xs ++ ys) → AllByRecursion (λ x. copy_cmp x c ≡ Less) xs → AllByRecursion (λ x. copy_cmp x c ≡ Greater) ys → IsStrictlySortedBy copy_cmp (xs ++ c ∷ ys)
unfolding IsStrictlySortedBy
rising_insert [] ys c s b g = (all_more (λ x. copy_cmp x c ≡ Greater) (λ x. copy_cmp c x ≡ Less) ys (λ x h. is_greater x c h) g, s)
rising_insert (x ∷ xs) ys c s b g = (all_insert (λ y. copy_cmp x y ≡ Less) xs ys c b.0 s.0, rising_insert xs ys c s.1 b.1 g)

-- a copy put in its place leaves them rising
pub rising_put : (c : List Lit) (cs : List (List Lit)) (i : ℕ) → IsPlace c cs i → IsStrictlySortedBy copy_cmp cs → IsStrictlySortedBy copy_cmp (take i cs ++ c ∷ drop i cs)
rising_put c cs i h s = rising_insert (take i cs) (drop i cs) c (subst (IsStrictlySortedBy copy_cmp) (sym (take-append-drop i cs)) s) h.before h.behind

-- what comes after the last one comes after all
pub all_below : (c : List Lit) (cs : List (List Lit)) (i : ℕ) (d : List Lit) → i + 1 ≡ length cs → IsStrictlySortedBy copy_cmp cs → copy_cmp (get_or cs i d) c ≡ Less → AllByRecursion (λ x. copy_cmp x c ≡ Less) cs
unfolding IsStrictlySortedBy
all_below c [] i d l s h = tt
all_below c (x ∷ []) zero d l s h = (h, tt)
all_below c (x ∷ y ∷ cs) zero d l s h = absurd (omega (arith, l))
all_below c (x ∷ cs) (suc i) d l s h =
    (copies_total.trans x (get_or cs i d) c (at_index (λ z. copy_cmp x z ≡ Less) cs i d (omega (arith, l)) s.0) h, all_below c cs i d (omega (arith, l)) s.1 h)

-- where a copy comes after the last one, its place is the end
pub place_last : (c x : List Lit) (cs : List (List Lit)) (i : ℕ) → i + 1 ≡ length cs → IsStrictlySortedBy copy_cmp cs → x ≡ get_or cs i x → copy_cmp x c ≡ Less → IsPlace c cs (length cs)
place_last c x cs i l s e h =
    let all = all_below c cs i x l s (subst (λ (y : List Lit). copy_cmp y c ≡ Less) e h) in
    record {
      within = omega arith;
      before = all_take (λ y. copy_cmp y c ≡ Less) cs (length cs) (λ k d b. at_index (λ y. copy_cmp y c ≡ Less) cs k d b all) (omega arith);
      behind = all_drop (λ y. copy_cmp y c ≡ Greater) cs (length cs) (λ k d b n. absurd (omega (arith, b, n)));
    }

pub is_less : (o : Ordering) → (ordering_index o == 0) ≡ true → o ≡ Less
is_less Less h = refl
is_less Equal h = absurd (let k : false ≡ true = h in cc)
is_less Greater h = absurd (let k : false ≡ true = h in cc)

-- copies that compare as equal are one
one_copy : (x c : List Lit) → copy_cmp x c ≡ Equal → x ≡ c
one_copy x c h = (pointwise_decides lit_eq-Decides x c).0 (lists_ties lit_cmp matches_eq-law x c ∙ ap is_eq h)

-- leaves that compare as equal make the same packets
pub one_leaf_same : (xs ys : List (List Lit)) (p : Packet) → pointwise copy_eq xs ys ≡ true → SameAnswers (outcomes xs p) (outcomes ys p)
one_leaf_same xs ys p h =
    subst (λ (zs : List (List Lit)). SameAnswers (outcomes xs p) (outcomes zs p)) ((pointwise_decides (pointwise_decides lit_eq-Decides) xs ys).0 h)
    (record { front = λ x k. k; back = λ x k. k })

in_at : (cs : List (List Lit)) (i : ℕ) (d : List Lit) → i < length cs → IsIn cs (get_or cs i d)
in_at [] i d h = absurd (omega (arith, h))
in_at (x ∷ cs) zero d h = inl refl
in_at (x ∷ cs) (suc i) d h = inr (in_at cs i d (omega (arith, h)))

neighbours : (cs : List (List Lit)) (k : ℕ) (d : List Lit) → suc k < length cs → IsStrictlySortedBy copy_cmp cs → copy_cmp (get_or cs k d) (get_or cs (suc k) d) ≡ Less
unfolding IsStrictlySortedBy
neighbours [] k d l s = absurd (omega (arith, l))
neighbours (x ∷ cs) zero d l s = at_index (λ y. copy_cmp x y ≡ Less) cs 0 d (omega (arith, l)) s.0
neighbours (x ∷ cs) (suc k) d l s = neighbours cs k d (omega (arith, l)) s.1

sorted : (cs : List (List Lit)) → IsStrictlySortedBy copy_cmp cs → IsSortedBy (λ x y. is_lt (copy_cmp x y)) cs
sorted cs s = λ k d _ l.
    let h = neighbours cs k d (omega (arith, l)) s in
    let g : copy_cmp (get_or cs (suc k) d) (get_or cs k d) ≡ Greater = copies_total.antisymm (get_or cs (suc k) d) (get_or cs k d) ∙ ap ordering_reverse h in
    let e : suc k ≡ k + 1 = omega arith in
    subst (λ (j : ℕ). is_lt (copy_cmp (get_or cs j d) (get_or cs k d)) ≡ false) e (ap is_lt g)

-- what a binary search tells
pub place_found : (c : List Lit) (cs : List (List Lit)) (r : Result ℕ ℕ) (o : Option ℕ) → o ≡ result_err r → IsStrictlySortedBy copy_cmp cs → IsSearchInRange r (length cs) → IsBinarySearchResult (λ y. copy_cmp y c) cs r → MatchOption o (IsIn cs c) (IsPlace c cs)
place_found c cs (Ok i) o e s b h = subst (λ (x : Option ℕ). MatchOption x (IsIn cs c) (IsPlace c cs)) (sym e) (subst (IsIn cs) (one_copy _ c (h c)) (in_at cs i c b))
place_found c cs (Err i) o e s b h =
    let point = h (searchable_from_sorted copies_total (λ x. x) cs c (sorted cs s)) in
    subst (λ (x : Option ℕ). MatchOption x (IsIn cs c) (IsPlace c cs)) (sym e) (record {
      within = b;
      before = all_take (λ y. copy_cmp y c ≡ Less) cs i (λ k d l. point.0 k d (omega arith) l) b;
      behind = all_drop (λ y. copy_cmp y c ≡ Greater) cs i (λ k d l n. point.1 k d l n);
    })

-- a single copy
pub rising_one : (c : List Lit) → IsStrictlySortedBy copy_cmp (c ∷ [])
unfolding IsStrictlySortedBy
rising_one c = (tt, tt)

pub rising_none : IsStrictlySortedBy copy_cmp []
unfolding IsStrictlySortedBy
rising_none = tt

pub puts_insert : (c : List Lit) (old : List (List Lit)) (i : ℕ) → PutsCopy c old (take i old ++ c ∷ drop i old)
puts_insert c old i =
    let whole = take-append-drop i old in
    record {
      kept = λ x h. elim (in-either (take i old) (drop i old) x (subst (λ (z : List (List Lit)). IsIn z x) (sym whole) h)) [
        | inl k ↦ in-left (take i old) (c ∷ drop i old) x k
        | inr k ↦ in-right (take i old) (c ∷ drop i old) x (inr k)
      ];
      has = in-right (take i old) (c ∷ drop i old) c (inl refl);
      only = λ x h. elim (in-either (take i old) (c ∷ drop i old) x h) [
        | inl k ↦ inl (subst (λ (z : List (List Lit)). IsIn z x) whole (in-left (take i old) (drop i old) x k))
        | inr k ↦ elim k [
          | inl e ↦ inr e
          | inr w ↦ inl (subst (λ (z : List (List Lit)). IsIn z x) whole (in-right (take i old) (drop i old) x w))
        ]
      ];
    }

pub puts_there : (c : List Lit) (old : List (List Lit)) → IsIn old c → PutsCopy c old old
puts_there c old h = record { kept = λ x k. k; has = h; only = λ x k. inl k }

-- one copy more of a list that rises as far

pub rising_first : (cs : List (List Lit)) → IsStrictlySortedBy copy_cmp (take 1 cs)
rising_first [] = rising_none
rising_first (c ∷ cs) = rising_one c

take_last : {X : Type 0} (xs : List X) (i : ℕ) (d : X) → i < length xs → take (i + 1) xs ≡ take i xs ++ get_or xs i d ∷ []
take_last [] i d h = absurd (omega (arith, h))
take_last (x ∷ xs) zero d h = refl
take_last (x ∷ xs) (suc i) d h =
    let n : suc i + 1 ≡ suc (i + 1) = omega arith in
    ap (λ j. take j (x ∷ xs)) n ∙ ap (λ ys. x ∷ ys) (take_last xs i d (omega (arith, h)))

length_taken : {X : Type 0} (xs : List X) (i : ℕ) → i ≤ length xs → length (take i xs) ≡ i
length_taken xs zero h = refl
length_taken [] (suc i) h = absurd (omega (arith, h))
length_taken (x ∷ xs) (suc i) h = ap suc (length_taken xs i (omega (arith, h)))

get_taken : {X : Type 0} (xs : List X) (i j : ℕ) (d : X) → j < i → get_or (take i xs) j d ≡ get_or xs j d
get_taken xs zero j d h = absurd (omega (arith, h))
get_taken [] (suc i) j d h = refl
get_taken (x ∷ xs) (suc i) zero d h = refl
get_taken (x ∷ xs) (suc i) (suc j) d h = get_taken xs i j d (omega (arith, h))

pub rising_more : (cs : List (List Lit)) (i j : ℕ) (x y : List Lit) → j + 1 ≡ i → i < length cs → x ≡ get_or cs j x → y ≡ get_or cs i y → copy_cmp x y ≡ Less → IsStrictlySortedBy copy_cmp (take i cs) → IsStrictlySortedBy copy_cmp (take (i + 1) cs)
rising_more cs i j x y n h ex ey l r =
    let len = length_taken cs i (omega (arith, h)) in
    let last : copy_cmp (get_or (take i cs) j x) y ≡ Less = ap (λ z. copy_cmp z y) (get_taken cs i j x (omega (arith, n)) ∙ sym ex) ∙ l in
    subst (IsStrictlySortedBy copy_cmp) (sym (take_last cs i y h ∙ ap (λ z. take i cs ++ z ∷ []) (sym ey)))
    (rising_insert (take i cs) [] y (subst (IsStrictlySortedBy copy_cmp) (sym (append-nil (take i cs))) r) (all_below y (take i cs) j x (omega (arith, n, len)) r last) tt)

pub rising_whole : (cs : List (List Lit)) (i : ℕ) → length cs ≤ i → IsStrictlySortedBy copy_cmp (take i cs) → IsStrictlySortedBy copy_cmp cs
rising_whole cs i h r = subst (IsStrictlySortedBy copy_cmp) (take_all i cs h) r

pub not_not : (b : Bool) → not b ≡ false → b ≡ true
not_not true e = refl
not_not false e = sym e
