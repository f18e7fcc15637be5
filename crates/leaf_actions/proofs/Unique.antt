-- Copies have one listing, and one list of actions.
use Rattle.std.proofs.Common.{◌≡◌, ℕ, suc, ◌+◌, ◌≤◌, inl, inr, refl, ap, sym, ◌∙◌, subst, arith, Bool, true, false, List, [], ◌∷◌, get_or, Some, add-one, Ordering, Less, Equal, Greater}
use Rattle.std.specs.Cmp.{IsTotalOrder}
use Rattle.std.specs.List.{sum_by}
use Rattle.std.specs.List.Sorted.{IsPermutation, IsSorted}
use Rattle.std.specs.Ordering.{is_lt, is_eq, ordering_then, ordering_reverse, nat_cmp}
use Rattle.std.proofs.lemmas.Bool.Decides.{nat_tests}
use Rattle.std.proofs.lemmas.List.Sums.{sum_by-cons}
use Rattle.std.proofs.lemmas.List.Sorted.{ranks_by, sorted_far, sum_by-IsPermutation}
use Rattle.nk_values.specs.declared.lit.Lit.{Lit}
use Rattle.nk_values.specs.declared.packet.Packet.{Packet}
use Rattle.nk_values.specs.Members.{IsIn}
use Rattle.std.specs.Cmp.Lexicographic.{lists_ties, pointwise_decides}
use Rattle.nk_values.specs.contracts.lit.LitOrd.TheImpl.Laws.{matches_eq-law}
use Rattle.nk_values.specs.Ranks.{lit_cmp}
use Rattle.nk_values.proofs.LitLaws.{lit_eq-Decides}
use Rattle.fdd_nodes.specs.Copies.{copy_cmp}
use Rattle.leaf_actions.specs.declared.route.Route.{Route}
use Rattle.leaf_actions.specs.declared.view.PortView.{PortView}
use Rattle.leaf_actions.specs.declared.view.SwitchPort.{SwitchPort}
use Rattle.leaf_actions.specs.Changes.{bit}
use Rattle.leaf_actions.specs.Laws.{ListsAreOne}
use Rattle.leaf_actions.specs.Listing.{listed}
use Rattle.leaf_actions.specs.Orders.{route_total}
use Rattle.leaf_actions.specs.Routes.{out_of, routes_of, route_cmp, IsListing}
use Rattle.leaf_actions.specs.Views.{port_in}
use Rattle.leaf_actions.proofs.Routed.{IsRouteOf, listed_known, in_contains}

-- what is told apart by an order
pub own : {X : Type 0} (R : X → X → Ordering) → IsTotalOrder R → (x : X) → R x x ≡ Equal
own R o x = split (R x x) (o.antisymm x x)
  where
    split : (c : Ordering) → c ≡ ordering_reverse c → c ≡ Equal
    split Less e = absurd (cc)
    split Equal e = refl
    split Greater e = absurd (cc)

neither_less : {X : Type 0} (R : X → X → Ordering) → IsTotalOrder R → (x y : X) → is_lt (R x y) ≡ false → is_lt (R y x) ≡ false → R x y ≡ Equal
neither_less R o x y h k = split (R x y) (R y x) (o.antisymm x y) h k
  where
    split : (c d : Ordering) → c ≡ ordering_reverse d → is_lt c ≡ false → is_lt d ≡ false → c ≡ Equal
    split Less d e h k = absurd (cc)
    split Equal d e h k = refl
    split Greater Less e h k = absurd (cc)
    split Greater Equal e h k = absurd (cc)
    split Greater Greater e h k = absurd (cc)

-- how many elements pass a test
abbrev count : {X : Type 0} → (X → Bool) → List X → ℕ
count p [] = 0
count p (x ∷ xs) = bit (p x) + count p xs

count_is : {X : Type 0} (p : X → Bool) (xs : List X) → count p xs ≡ sum_by (λ x. bit (p x)) xs
count_is p [] = refl
count_is p (x ∷ xs) = ap (λ n. bit (p x) + n) (count_is p xs) ∙ sym (sum_by-cons (λ x. bit (p x)) x xs)

permuted : {X : Type 0} (p : X → Bool) (xs ys : List X) → IsPermutation xs ys → count p xs ≡ count p ys
permuted p xs ys h = count_is p xs ∙ sym (sum_by-IsPermutation (λ x. bit (p x)) xs ys h) ∙ sym (count_is p ys)

some_passes : {X : Type 0} (p : X → Bool) (xs : List X) → 1 ≤ count p xs → (x : X) × IsIn xs x × (p x ≡ true)
some_passes p [] h = absurd (omega arith)
some_passes {X} p (x ∷ xs) h = split (p x) refl (λ k. some_passes p xs k)
  where
    split : (b : Bool) → p x ≡ b → (1 ≤ count p xs → (y : X) × IsIn xs y × (p y ≡ true)) → (y : X) × IsIn (x ∷ xs) y × (p y ≡ true)
    split true e r = (x, inl refl, e)
    split false e r =
        let z : bit (p x) ≡ 0 = ap bit e in
        let k = r (omega (arith, h, z)) in
        (k.0, inr k.1, k.2)

is_equal : (c : Ordering) → is_eq c ≡ true → c ≡ Equal
is_equal Less h = absurd (cc)
is_equal Equal h = refl
is_equal Greater h = absurd (cc)

-- the first of sorted elements is the least
least : {X : Type 0} (R : X → X → Ordering) → IsTotalOrder R → (x : X) (xs : List X) → IsSorted R (x ∷ xs) → (z : X) → IsIn (x ∷ xs) z → is_lt (R z x) ≡ false
least {X} R o x xs s z m =
    let c = in_contains (x ∷ xs) z m in
    subst (λ (w : X). is_lt (R w x) ≡ false) c.2 (sorted_far (λ a b. is_lt (R a b)) (ranks_by o (λ a. a)) (x ∷ xs) s 0 c.0 z (omega arith) c.1)

-- one first element is no less than the other
no_less : {X : Type 0} (R : X → X → Ordering) → IsTotalOrder R → (x y : X) (xs ys : List X) → IsSorted R (x ∷ xs) → count (λ z. is_eq (R z y)) (x ∷ xs) ≡ count (λ z. is_eq (R z y)) (y ∷ ys) → is_lt (R y x) ≡ false
no_less R o x y xs ys s c =
    let one : bit (is_eq (R y y)) ≡ 1 = ap (λ (d : Ordering). bit (is_eq d)) (own R o y) in
    let z = some_passes (λ z. is_eq (R z y)) (x ∷ xs) (omega (arith, c, one)) in
    let e = o.congr z.0 y x (is_equal (R z.0 y) z.2) in
    ap is_lt (sym e) ∙ least R o x xs s z.0 z.1

tail_sorted : {X : Type 0} (R : X → X → Ordering) (x : X) (xs : List X) → IsSorted R (x ∷ xs) → IsSorted R xs
tail_sorted R x xs s = λ k d h i.
    subst (λ (m : ℕ). is_lt (R (get_or xs m d) (get_or xs k d)) ≡ false) (sym (add-one k))
    (subst (λ (m : ℕ). is_lt (R (get_or (x ∷ xs) m d) (get_or (x ∷ xs) (suc k) d)) ≡ false) (add-one (suc k)) (s (suc k) d (omega arith) (omega (arith, i))))

-- sorted lists of one collection are the same, where elements that compare as equal are
module _ {X : Type 0} (R : X → X → Ordering) (o : IsTotalOrder R) (P : X → Type 0) (one : (x y : X) → P x → P y → R x y ≡ Equal → x ≡ y) where
  same_sorted : (xs ys : List X) → ((x : X) → IsIn xs x → P x) → ((y : X) → IsIn ys y → P y) → ((p : X → Bool) → count p xs ≡ count p ys) → IsSorted R xs → IsSorted R ys → xs ≡ ys
  same_sorted [] [] px py c s t = refl
  same_sorted [] (y ∷ ys) px py c s t =
      let own_one : bit (is_eq (R y y)) ≡ 1 = ap (λ (d : Ordering). bit (is_eq d)) (own R o y) in
      let h = c (λ z. is_eq (R z y)) in
      absurd (omega (arith, h, own_one))
  same_sorted (x ∷ xs) [] px py c s t =
      let own_one : bit (is_eq (R x x)) ≡ 1 = ap (λ (d : Ordering). bit (is_eq d)) (own R o x) in
      let h = c (λ z. is_eq (R z x)) in
      absurd (omega (arith, h, own_one))
  same_sorted (x ∷ xs) (y ∷ ys) px py c s t =
      let a = no_less R o x y xs ys s (c (λ z. is_eq (R z y))) in
      let b = no_less R o y x ys xs t (sym (c (λ z. is_eq (R z x)))) in
      let e : x ≡ y = one x y (px x (inl refl)) (py y (inl refl)) (neither_less R o x y b a) in
      let rest = same_sorted xs ys (λ z m. px z (inr m)) (λ z m. py z (inr m))
      (λ p. let h = c p in let k : bit (p x) ≡ bit (p y) = ap (λ (z : X). bit (p z)) e in omega (arith, h, k))
      (tail_sorted R x xs s) (tail_sorted R y ys t) in
      λ i. e i ∷ rest i

-- routes that compare as equal are one
both_equal : (a b : Ordering) → ordering_then a b ≡ Equal → (a ≡ Equal) × (b ≡ Equal)
both_equal Less b e = absurd (cc)
both_equal Equal b e = (refl, e)
both_equal Greater b e = absurd (cc)

same_number : (m n : ℕ) → nat_cmp m n ≡ Equal → m ≡ n
same_number m n e = grind (arith, nat_tests)

same_copy : (c d : List Lit) → copy_cmp c d ≡ Equal → c ≡ d
same_copy c d h = (pointwise_decides lit_eq-Decides c d).0 (lists_ties lit_cmp matches_eq-law c d ∙ ap is_eq h)

same_route : (v : PortView) (x : Packet) (cs : List (List Lit)) (a b : Route) → IsRouteOf v x cs a → IsRouteOf v x cs b → route_cmp a b ≡ Equal → a ≡ b
same_route v x cs a b h k e =
    let one = both_equal (nat_cmp a.count b.count) _ e in
    let two = both_equal (nat_cmp a.port b.port) (copy_cmp a.copy b.copy) one.1 in
    let count = same_number a.count b.count one.0 in
    let port = same_number a.port b.port two.0 in
    let copy = same_copy a.copy b.copy two.1 in
    let site : Some h.site ≡ Some k.site = sym h.found ∙ ap (λ (c : List Lit). port_in v.ports (out_of v c)) copy ∙ k.found in
    let same : h.site ≡ k.site = cc in
    let kind : a.kind ≡ b.kind = sym h.kind ∙ ap (λ (s : SwitchPort). s.kind) same ∙ k.kind in
    λ i. record { count = count i; port = port i; kind = kind i; copy = copy i }

one_listing : (v : PortView) (x : Packet) (cs : List (List Lit)) (rs ss : List Route) → IsListing v x cs rs → IsListing v x cs ss → rs ≡ ss
one_listing v x cs rs ss h k =
    same_sorted route_cmp route_total (IsRouteOf v x cs) (same_route v x cs) rs ss (listed_known v x cs rs h) (listed_known v x cs ss k)
    (λ p. sym (permuted p (routes_of v x cs) rs h.all) ∙ permuted p (routes_of v x cs) ss k.all) h.sorted k.sorted

-- so copies have one list of actions at most
pub one_list : ListsAreOne
one_list x v cs as' bs h k =
    h.actions ∙ ap (λ (rs : List Route). listed v x x v.kind rs) (one_listing v x cs h.routes k.routes h.listing k.listing) ∙ sym k.actions
