-- Rows in the order of their keys, and how often a key comes.
use Rattle.std.proofs.Common.{◌≡◌, ℕ, zero, suc, ◌+◌, ◌<◌, ◌≤◌, ◌⊎◌, Bool, true, false, cond, List, [], ◌∷◌, length, get_or, refl, sym, ap, subst, ◌∙◌, inl, inr, arith}
use Rattle.std.specs.Cmp.{IsTotalOrder}
use Rattle.std.specs.Cmp.Lexicographic.{on_texts}
use Rattle.std.specs.List.Sorted.{IsPermutation}
use Rattle.std.specs.Ordering.{is_lt, is_eq, ordering_reverse}
use Rattle.std.specs.declared.cmp.Ordering.{Ordering}
use Rattle.std.specs.declared.cmp.Ordering.TheVariants.{Less, Equal, Greater}
use Rattle.std.proofs.lemmas.List.Sorted.{Contains-permutation, IsPermutation-sym, sum_by-IsPermutation}
use Rattle.std.proofs.lemmas.List.Sums.{sum_by-cons}
use Rattle.nk_values.specs.declared.row.Row.{Row}
use Rattle.nk_values.specs.Members.{IsIn, SameMembers}
use Rattle.nk_values.specs.Tables.{Distinct}
use Rattle.openflow_wire.specs.KeyOrder.{key_cmp, key_numbers, IsUp, IsRising, key_count, IsRepeated}
use Rattle.openflow_wire.proofs.Keys.{equal-same, same-equal}

pub order : IsTotalOrder key_cmp
order = on_texts key_numbers

pub ord-case : (o : Ordering) → (o ≡ Less) ⊎ ((o ≡ Equal) ⊎ (o ≡ Greater))
ord-case Less = inl refl
ord-case Equal = inr (inl refl)
ord-case Greater = inr (inr refl)

pub flip-greater : (a b : Row) → key_cmp a b ≡ Greater → key_cmp b a ≡ Less
flip-greater a b e = order.antisymm b a ∙ ap ordering_reverse e

pub flip-equal : (a b : Row) → key_cmp a b ≡ Equal → key_cmp b a ≡ Equal
flip-equal a b e = order.antisymm b a ∙ ap ordering_reverse e

pub flip-less : (a b : Row) → key_cmp a b ≡ Less → key_cmp b a ≡ Greater
flip-less a b e = order.antisymm b a ∙ ap ordering_reverse e

pub self : (a : Row) → key_cmp a a ≡ Equal
self a = same-equal a a (record { same_pattern = refl; same_priority = refl })

-- ---- places

pub index : (xs : List Row) (r : Row) → IsIn xs r → (j : ℕ) × (j < length xs) × (get_or xs j r ≡ r)
index [] r m = absurd m
index (y ∷ ys) r (inl e) = (0, omega arith, e)
index (y ∷ ys) r (inr m) = (let p = index ys r m in let lt = p.1 in (suc p.0, omega arith, p.2))

pub in-at : (xs : List Row) (k : ℕ) (d : Row) → k < length xs → IsIn xs (get_or xs k d)
in-at [] k d lt = absurd (omega arith)
in-at (x ∷ xs) zero d lt = inl refl
in-at (x ∷ xs) (suc k) d lt = inr (in-at xs k d (omega arith))

pub moved-in : (xs ys : List Row) (r : Row) → IsPermutation xs ys → IsIn xs r → IsIn ys r
moved-in xs ys r moved m =
    let p = Contains-permutation xs ys r moved (index xs r m) in
    subst (λ (z : Row). IsIn ys z) p.2 (in-at ys p.0 r p.1)

pub far-up : (xs : List Row) → ((i j : ℕ) (d : Row) → i ≤ j → j < length xs → is_lt (key_cmp (get_or xs j d) (get_or xs i d)) ≡ false) → IsUp xs
far-up [] h = tt
far-up (x ∷ xs) h = (
  λ r m. (let p = index xs r m in let lt = p.1 in subst (λ (z : Row). is_lt (key_cmp z x) ≡ false) p.2 (h 0 (suc p.0) r (omega arith) (omega arith))),
  far-up xs (λ i j d le lt. h (suc i) (suc j) d (omega arith) (omega arith)),
)

-- ---- counting

not-equal : (o : Ordering) → ¬ (o ≡ Equal) → is_eq o ≡ false
not-equal Less h = refl
not-equal Equal h = absurd (h refl)
not-equal Greater h = refl

is-equal : (o : Ordering) → is_eq o ≡ true → o ≡ Equal
is-equal Less e = absurd cc
is-equal Equal e = refl
is-equal Greater e = absurd cc

bool-case : (b : Bool) → (b ≡ true) ⊎ (b ≡ false)
bool-case true = inl refl
bool-case false = inr refl

abbrev one_of : Row → Row → ℕ
one_of r s = cond (is_eq (key_cmp s r)) 1 0

count-cons : (x : Row) (xs : List Row) (r : Row) → key_count r (x ∷ xs) ≡ one_of r x + key_count r xs
count-cons x xs r = sum_by-cons (one_of r) x xs

one-yes : (x r : Row) → key_cmp x r ≡ Equal → one_of r x ≡ 1
one-yes x r e = ap (λ (o : Ordering). cond (is_eq o) 1 0) e

one-no : (x r : Row) → ¬ (key_cmp x r ≡ Equal) → one_of r x ≡ 0
one-no x r h = (let p = not-equal (key_cmp x r) h in rw p refl)

pub some-count : (xs : List Row) (s r : Row) → IsIn xs s → key_cmp s r ≡ Equal → 1 ≤ key_count r xs
some-count [] s r m q = absurd m
some-count (x ∷ xs) s r (inl e) q =
    let a = count-cons x xs r in let b = one-yes x r (ap (λ (y : Row). key_cmp y r) e ∙ q) in omega (arith, a, b)
some-count (x ∷ xs) s r (inr m) q = let a = count-cons x xs r in let h = some-count xs s r m q in omega (arith, a, h)

pub none-count : (xs : List Row) (r : Row) → ((s : Row) → IsIn xs s → ¬ (key_cmp s r ≡ Equal)) → key_count r xs ≡ 0
none-count [] r h = refl
none-count (x ∷ xs) r h =
    let a = count-cons x xs r in let b = one-no x r (h x (inl refl)) in let n = none-count xs r (λ s m. h s (inr m)) in omega (arith, a, b, n)

joins : (x s r : Row) → key_cmp x r ≡ Equal → key_cmp s r ≡ Equal → key_cmp s x ≡ Equal
joins x s r a b = order.congr s r x b ∙ flip-equal x r a

pub distinct-few : (xs : List Row) → Distinct xs → (r : Row) → key_count r xs ≤ 1
distinct-few [] d r = omega arith
distinct-few (x ∷ xs) d r =
    let a = count-cons x xs r in
    elim (bool-case (is_eq (key_cmp x r))) [
      | inl t ↦ (let n = none-count xs r (λ s m q. d.0 s m (equal-same s x (joins x s r (is-equal (key_cmp x r) t) q))) in
          let b = one-yes x r (is-equal (key_cmp x r) t) in omega (arith, a, b, n))
      | inr f ↦ (let n = distinct-few xs d.1 r in
          let b : one_of r x ≡ 0 = rw f refl in omega (arith, a, b, n))
    ]

-- a key comes twice where it is the first row's and another's
twice : (x : Row) (xs : List Row) (s : Row) → IsIn xs s → key_cmp s x ≡ Equal → 2 ≤ key_count x (x ∷ xs)
twice x xs s m e = let a = count-cons x xs x in let b = one-yes x x (self x) in let n = some-count xs s x m e in omega (arith, a, b, n)

behind-few : (x : Row) (xs : List Row) → ((r : Row) → key_count r (x ∷ xs) ≤ 1) → (r : Row) → key_count r xs ≤ 1
behind-few x xs h r = let a = count-cons x xs r in let b = h r in omega (arith, a, b)

pub few-distinct : (xs : List Row) → ((r : Row) → key_count r xs ≤ 1) → Distinct xs
few-distinct [] h = tt
few-distinct (x ∷ xs) h = (
  λ s m k. (let a = twice x xs s m (same-equal s x k) in let b = h x in omega (arith, a, b)),
  few-distinct xs (behind-few x xs h),
)

pub moved-count : (xs ys : List Row) (r : Row) → IsPermutation xs ys → key_count r ys ≡ key_count r xs
moved-count xs ys r moved = sum_by-IsPermutation (λ s. cond (is_eq (key_cmp s r)) 1 0) xs ys moved

-- ---- rising rows

less-of : (x s : Row) → is_lt (key_cmp s x) ≡ false → ¬ (key_cmp x s ≡ Equal) → key_cmp x s ≡ Less
less-of x s up ne =
    elim (ord-case (key_cmp x s)) [
      | inl e ↦ e
      | inr o ↦ elim o [ inl e ↦ absurd (ne e) | inr e ↦ absurd (let t = ap is_lt (flip-greater x s e) in cc) ]
    ]

pub up-few-rising : (xs : List Row) → IsUp xs → ((r : Row) → key_count r xs ≤ 1) → IsRising xs
up-few-rising [] u h = tt
up-few-rising (x ∷ xs) u h = (
  λ s m. less-of x s (u.0 s m) (λ e. let a = twice x xs s m (flip-equal x s e) in let b = h x in omega (arith, a, b)),
  up-few-rising xs u.1 (behind-few x xs h),
)

pub rising-distinct : (xs : List Row) → IsRising xs → Distinct xs
rising-distinct [] h = tt
rising-distinct (x ∷ xs) h = (λ s m k. (let a = h.0 s m in let b = flip-equal s x (same-equal s x k) in absurd cc), rising-distinct xs h.1)

pub adjacent-rising : (xs : List Row) → IsUp xs → ((i j : ℕ) (d : Row) → i + 1 ≡ j → j < length xs → ¬ (key_cmp (get_or xs i d) (get_or xs j d) ≡ Equal)) → IsRising xs
adjacent-rising [] u h = tt
adjacent-rising (x ∷ []) u h = (λ s m. absurd m, tt)
adjacent-rising (x ∷ y ∷ ys) u h =
    let first : key_cmp x y ≡ Less = less-of x y (u.0 y (inl refl)) (h 0 1 x refl (omega arith)) in
    let more = adjacent-rising (y ∷ ys) u.1 (λ i j d e lt. h (suc i) (suc j) d (omega arith) (omega arith)) in (
      λ s m. elim m [ inl e ↦ subst (λ (z : Row). key_cmp x z ≡ Less) e first | inr k ↦ order.trans x y s first (more.0 s k) ],
      more,
    )

pub two-count : (xs : List Row) (i j : ℕ) (d : Row) → i + 1 ≡ j → j < length xs → key_cmp (get_or xs i d) (get_or xs j d) ≡ Equal → 2 ≤ key_count (get_or xs i d) xs
two-count [] i j d n lt e = absurd (omega arith)
two-count (x ∷ xs) zero zero d n lt e = absurd (omega arith)
two-count (x ∷ xs) zero (suc j) d n lt e = twice x xs (get_or xs j d) (in-at xs j d (omega arith)) (flip-equal x (get_or xs j d) e)
two-count (x ∷ xs) (suc i) zero d n lt e = absurd (omega arith)
two-count (x ∷ xs) (suc i) (suc j) d n lt e =
    let a = two-count xs i j d (omega arith) (omega arith) e in let b = count-cons x xs (get_or xs i d) in omega (arith, a, b)

default : (xs : List Row) (i : ℕ) (d e : Row) → i < length xs → get_or xs i d ≡ get_or xs i e
default [] i d e lt = absurd (omega arith)
default (x ∷ xs) zero d e lt = refl
default (x ∷ xs) (suc i) d e lt = default xs i d e (omega arith)

pub repeats : (xs : List Row) (i j : ℕ) (x y : Row) → i + 1 ≡ j → j < length xs → x ≡ get_or xs i x → y ≡ get_or xs j y → key_cmp x y ≡ Equal
    → (d : Row) → IsRepeated xs (get_or xs i d)
repeats xs i j x y n lt ex ey e d =
    let a : x ≡ get_or xs i d = ex ∙ default xs i x d (omega arith) in
    let b : y ≡ get_or xs j d = ey ∙ default xs j y d lt in
    let f : key_cmp (get_or xs i d) (get_or xs j d) ≡ Equal =
    subst (λ (z : Row). key_cmp (get_or xs i d) z ≡ Equal) b (subst (λ (z : Row). key_cmp z y ≡ Equal) a e) in
    record { among = in-at xs i d (omega arith); again = two-count xs i j d n lt f }

-- ---- rows that were put into order

pub ranked-rising : (xs ys : List Row) → Distinct xs → IsPermutation xs ys → IsUp ys → IsRising ys
ranked-rising xs ys d moved up =
    up-few-rising ys up (λ r. subst (λ (n : ℕ). n ≤ 1) (sym (moved-count xs ys r moved)) (distinct-few xs d r))

pub ranked-distinct : (xs ys : List Row) → IsPermutation xs ys → IsRising ys → Distinct xs
ranked-distinct xs ys moved up =
    few-distinct xs (λ r. subst (λ (n : ℕ). n ≤ 1) (moved-count xs ys r moved) (distinct-few ys (rising-distinct ys up) r))

pub repeated-moves : (xs ys : List Row) (r : Row) → IsPermutation xs ys → IsRepeated ys r → IsRepeated xs r
repeated-moves xs ys r moved h = record {
  among = moved-in ys xs r (IsPermutation-sym xs ys moved) h.among;
  again = subst (λ (n : ℕ). 2 ≤ n) (moved-count xs ys r moved) h.again;
}

pub moved-members : (xs ys : List Row) → IsPermutation xs ys → SameMembers ys xs
moved-members xs ys moved = record { front = λ r m. moved-in ys xs r (IsPermutation-sym xs ys moved) m; back = λ r m. moved-in xs ys r moved m }
