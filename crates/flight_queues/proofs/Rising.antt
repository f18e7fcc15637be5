-- Numbers that rise.
use Rattle.std.proofs.Common.{◌≡◌, ◌≢◌, ℕ, zero, suc, ◌+◌, ◌<◌, ◌≤◌, inl, inr, Bool, cond, not, nat_eq, List, [], ◌∷◌, ◌++◌, length, map, refl, sym, ◌∙◌, ap, subst, Some, slice_get, slice_set, remove, arith}
use Rattle.std.specs.List.{filter}
use Rattle.nk_values.specs.Members.{IsIn}
use Rattle.flight_queues.specs.Merged.{Rises, is_other, without}
use Rattle.flow_index.proofs.Lists.{none-some, some-is, at-in}
use Rattle.flight_queues.proofs.Lists.{decide, eq-same, eq-is, eq-other, eq-differ, in-map, kept, left, filter-all}

pub rises-order : (low high : ℕ) (ns : List ℕ) → Rises low high ns → low ≤ high
rises-order low high [] r = r
rises-order low high (n ∷ ns) r = let rest = rises-order (n + 1) high ns r.1 in let first = r.0 in omega (arith, rest, first)

pub rises-from : (low less high : ℕ) (ns : List ℕ) → less ≤ low → Rises low high ns → Rises less high ns
rises-from low less high [] l r = omega (arith, l, r)
rises-from low less high (n ∷ ns) l r = (let first = r.0 in omega (arith, l, first), r.1)

pub rises-to : (low high more : ℕ) (ns : List ℕ) → high ≤ more → Rises low high ns → Rises low more ns
rises-to low high more [] l r = omega (arith, l, r)
rises-to low high more (n ∷ ns) l r = (r.0, rises-to (n + 1) high more ns l r.1)

pub rises-bounds : (low high : ℕ) (ns : List ℕ) (n : ℕ) → Rises low high ns → IsIn ns n → (low ≤ n) × (n < high)
rises-bounds low high [] n r h = absurd h
rises-bounds low high (m ∷ ns) n r (inl e) = let first = r.0 in let rest = rises-order (m + 1) high ns r.1 in (omega (arith, first, e), omega (arith, rest, e))
rises-bounds low high (m ∷ ns) n r (inr h) = let first = r.0 in let rest = rises-bounds (m + 1) high ns n r.1 h in (omega (arith, first, rest.0), rest.1)

pub rises-end : (low high : ℕ) (ns : List ℕ) → Rises low high ns → Rises low (high + 1) (ns ++ high ∷ [])
rises-end low high [] r = (r, omega arith)
rises-end low high (n ∷ ns) r = (r.0, rises-end (n + 1) high ns r.1)

-- ---- elements with numbers

module _ {X : Type 0} (number : X → ℕ) where
  pub rises-part : (p : X → Bool) (low high : ℕ) (xs : List X) → Rises low high (map number xs) → Rises low high (map number (filter p xs))
  rises-part p low high [] r = r
  rises-part p low high (x ∷ xs) r =
      let rest = rises-part p (number x + 1) high xs r.1 in
      elim (decide (p x)) [
        | inl e ↦ subst (λ (zs : List X). Rises low high (map number zs)) (sym (kept p x xs e)) (r.0, rest)
        | inr e ↦ subst (λ (zs : List X). Rises low high (map number zs)) (sym (left p x xs e)) (rises-from (number x + 1) low high (map number (filter p xs)) (let first = r.0 in omega (arith, first)) rest)
      ]

  -- no two have one number
  pub unique : (low high : ℕ) (xs : List X) (x y : X) → Rises low high (map number xs) → IsIn xs x → IsIn xs y → number x ≡ number y → x ≡ y
  unique low high [] x y r h k q = absurd h
  unique low high (z ∷ zs) x y r (inl h) (inl k) q = sym h ∙ k
  unique low high (z ∷ zs) x y r (inl h) (inr k) q =
      let bounds = rises-bounds (number z + 1) high (map number zs) (number y) r.1 (in-map number zs y k) in
      let same = ap number h in absurd (omega (arith, bounds.0, same, q))
  unique low high (z ∷ zs) x y r (inr h) (inl k) q =
      let bounds = rises-bounds (number z + 1) high (map number zs) (number x) r.1 (in-map number zs x h) in
      let same = ap number k in absurd (omega (arith, bounds.0, same, q))
  unique low high (z ∷ zs) x y r (inr h) (inr k) q = unique (number z + 1) high zs x y r.1 h k q

  pub without-below : (low high n : ℕ) (xs : List X) → Rises low high (map number xs) → n < low → without number n xs ≡ xs
  without-below low high n xs r l = filter-all (is_other number n) xs (λ x h.
      let bounds = rises-bounds low high (map number xs) (number x) r (in-map number xs x h) in
      ap not (eq-other (number x) n (λ e. absurd (omega (arith, bounds.0, l, e)))))

  -- what goes at a place is all that has its number
  pub remove-without : (low high : ℕ) (xs : List X) (k : ℕ) (x : X) → Rises low high (map number xs) → slice_get xs k ≡ Some x → remove xs k ≡ without number (number x) xs
  remove-without low high [] k x r q = none-some x q
  remove-without low high (y ∷ ys) zero x r q =
      let same : number y ≡ number x = ap number (some-is y x q) in
      sym (left (is_other number (number x)) y ys (ap not (eq-same (number y) (number x) same)) ∙ without-below (number y + 1) high (number x) ys r.1 (omega (arith, same)))
  remove-without low high (y ∷ ys) (suc k) x r q =
      let bounds = rises-bounds (number y + 1) high (map number ys) (number x) r.1 (in-map number ys x (at-in ys k x q)) in
      ap (λ (zs : List X). y ∷ zs) (remove-without (number y + 1) high ys k x r.1 q)
      ∙ sym (kept (is_other number (number x)) y ys (ap not (eq-other (number y) (number x) (λ e. absurd (omega (arith, bounds.0, e))))))

  -- a function that changes the element with a number alone
  pub set-map : (f : X → X) (low high : ℕ) (xs : List X) (k : ℕ) (x : X) → ((y : X) → number y ≢ number x → f y ≡ y) → Rises low high (map number xs) → slice_get xs k ≡ Some x → slice_set xs k (f x) ≡ map f xs
  set-map f low high [] k x keeps r q = none-some x q
  set-map f low high (y ∷ ys) zero x keeps r q =
      let same : y ≡ x = some-is y x q in
      ap (λ (z : X). f z ∷ ys) (sym same) ∙ ap (λ (zs : List X). f y ∷ zs) (sym (map-same ys (λ z h.
      let bounds = rises-bounds (number y + 1) high (map number ys) (number z) r.1 (in-map number ys z h) in
      keeps z (λ e. absurd (let equal : number y ≡ number x = ap number same in omega (arith, bounds.0, e, equal))))))
    where
      map-same : (zs : List X) → ((z : X) → IsIn zs z → f z ≡ z) → map f zs ≡ zs
      map-same [] h = refl
      map-same (z ∷ zs) h = λ i. h z (inl refl) i ∷ map-same zs (λ w k. h w (inr k)) i
  set-map f low high (y ∷ ys) (suc k) x keeps r q =
      let bounds = rises-bounds (number y + 1) high (map number ys) (number x) r.1 (in-map number ys x (at-in ys k x q)) in
      let head : f y ≡ y = keeps y (λ e. absurd (omega (arith, bounds.0, e))) in
      λ i. sym head i ∷ set-map f (number y + 1) high ys k x keeps r.1 q i

-- ---- new numbers from the front on

-- so far, from low on
abbrev pub AreCounted : ℕ → ℕ → List ℕ → Type 0
AreCounted low i ns = (k n : ℕ) → k < i → slice_get ns k ≡ Some n → n ≡ low + k

pub rises-set : (low high i n : ℕ) (ns : List ℕ) → Rises low high ns → AreCounted low i ns → slice_get ns i ≡ Some n → Rises low high (slice_set ns i (low + i))
rises-set low high i n [] r c q = none-some n q
rises-set low high zero n (m ∷ ns) r c q =
    let first = r.0 in
    (omega arith, rises-from (m + 1) (low + 0 + 1) high ns (omega (arith, first)) r.1)
rises-set low high (suc i) n (m ∷ ns) r c q =
    let same : m ≡ low + 0 = c 0 m (omega arith) refl in
    let rest : Rises (m + 1) high (slice_set ns i (m + 1 + i)) = rises-set (m + 1) high i n ns r.1 (λ k x l p. let more = c (suc k) x (omega (arith, l)) p in omega (arith, more, same)) q in
    let equal : m + 1 + i ≡ low + suc i = omega (arith, same) in
    (r.0, subst (λ (to : ℕ). Rises (m + 1) high (slice_set ns i to)) equal rest)

-- the number of the one that comes next is free, or its own
pub free-number : (low high i n : ℕ) (ns : List ℕ) → Rises low high ns → AreCounted low i ns → slice_get ns i ≡ Some n → IsIn ns (low + i) → low + i ≡ n
free-number low high i n [] r c q h = absurd h
free-number low high zero n (m ∷ ns) r c q (inl e) = sym e ∙ some-is m n q
free-number low high zero n (m ∷ ns) r c q (inr h) = let bounds = rises-bounds (m + 1) high ns (low + 0) r.1 h in let first = r.0 in absurd (omega (arith, bounds.0, first))
free-number low high (suc i) n (m ∷ ns) r c q (inl e) = let same : m ≡ low + 0 = c 0 m (omega arith) refl in absurd (omega (arith, e, same))
free-number low high (suc i) n (m ∷ ns) r c q (inr h) =
    let same : m ≡ low + 0 = c 0 m (omega arith) refl in
    let equal : low + suc i ≡ m + 1 + i = omega (arith, same) in
    equal ∙ free-number (m + 1) high i n ns r.1 (λ k x l p. let more = c (suc k) x (omega (arith, l)) p in omega (arith, more, same)) q (subst (λ (x : ℕ). IsIn ns x) equal h)

-- all of them
pub rises-counted : (low high : ℕ) (ns : List ℕ) → Rises low high ns → AreCounted low (length ns) ns → Rises low (low + length ns) ns
rises-counted low high [] r c = omega arith
rises-counted low high (m ∷ ns) r c =
    let same : m ≡ low + 0 = c 0 m (omega arith) refl in
    let rest = rises-counted (m + 1) high ns r.1 (λ k x l p. let more = c (suc k) x (omega (arith, l)) p in omega (arith, more, same)) in
    (r.0, subst (λ (to : ℕ). Rises (m + 1) to ns) (let equal : m + 1 + length ns ≡ low + suc (length ns) = omega (arith, same) in equal) rest)

-- ---- where a number stands

-- the first place of a number
abbrev pub index_of : ℕ → List ℕ → ℕ
index_of n [] = 0
index_of n (m ∷ ns) = cond (nat_eq m n) 0 (suc (index_of n ns))

pub index-here : (n : ℕ) (m : ℕ) (ns : List ℕ) → m ≡ n → index_of n (m ∷ ns) ≡ 0
index-here n m ns e = ap (λ (b : Bool). cond b 0 (suc (index_of n ns))) (eq-same m n e)

pub index-later : (n : ℕ) (m : ℕ) (ns : List ℕ) → m ≢ n → index_of n (m ∷ ns) ≡ suc (index_of n ns)
index-later n m ns d = ap (λ (b : Bool). cond b 0 (suc (index_of n ns))) (eq-other m n d)

pub index-within : (n : ℕ) (ns : List ℕ) → index_of n ns ≤ length ns
index-within n [] = omega arith
index-within n (m ∷ ns) = elim (decide (nat_eq m n)) [
  | inl e ↦ let here = index-here n m ns (eq-is m n e) in omega (arith, here)
  | inr e ↦ let later = index-later n m ns (eq-differ m n e) in let rest = index-within n ns in omega (arith, later, rest)
]

-- a less number stands before it
pub index-above : (low high n k m : ℕ) (ns : List ℕ) → Rises low high ns → slice_get ns k ≡ Some m → m < n → k < length ns → suc k ≤ index_of n ns
index-above low high n k m [] r q l w = none-some m q
index-above low high n zero m (x ∷ ns) r q l w =
    let same : x ≡ m = some-is x m q in
    let later = index-later n x ns (λ e. absurd (omega (arith, e, same, l))) in
    omega (arith, later)
index-above low high n (suc k) m (x ∷ ns) r q l w =
    let bounds = rises-bounds (x + 1) high ns m r.1 (at-in ns k m q) in
    let later = index-later n x ns (λ e. absurd (omega (arith, e, bounds.0, l))) in
    let rest = index-above (x + 1) high n k m ns r.1 q l (omega (arith, w)) in
    omega (arith, later, rest)

-- one that is no less does not
pub index-below : (low high n k m : ℕ) (ns : List ℕ) → Rises low high ns → IsIn ns n → slice_get ns k ≡ Some m → n ≤ m → index_of n ns ≤ k
index-below low high n k m [] r h q l = absurd h
index-below low high n k m (x ∷ ns) r (inl e) q l = let here = index-here n x ns e in omega (arith, here)
index-below low high n zero m (x ∷ ns) r (inr h) q l =
    let same : x ≡ m = some-is x m q in
    let bounds = rises-bounds (x + 1) high ns n r.1 h in
    absurd (omega (arith, same, bounds.0, l))
index-below low high n (suc k) m (x ∷ ns) r (inr h) q l =
    let bounds = rises-bounds (x + 1) high ns n r.1 h in
    let later = index-later n x ns (λ e. absurd (omega (arith, e, bounds.0))) in
    let rest = index-below (x + 1) high n k m ns r.1 h q l in
    omega (arith, later, rest)

pub index-has : (n : ℕ) (ns : List ℕ) → IsIn ns n → slice_get ns (index_of n ns) ≡ Some n
index-has n [] h = absurd h
index-has n (m ∷ ns) h = elim (decide (nat_eq m n)) [
  | inl e ↦ ap (slice_get (m ∷ ns)) (index-here n m ns (eq-is m n e)) ∙ ap (λ (x : ℕ). Some x) (eq-is m n e)
  | inr e ↦ ap (slice_get (m ∷ ns)) (index-later n m ns (eq-differ m n e)) ∙ index-has n ns (elim h [ inl q ↦ absurd (eq-differ m n e q) | inr k ↦ k ])
]
