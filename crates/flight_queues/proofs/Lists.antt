-- Lists: what passes a test, and lists that are joined.
use Rattle.std.proofs.Common.{◌≡◌, ◌≢◌, ℕ, zero, suc, ◌+◌, ◌<◌, inl, inr, ◌⊎◌, Bool, true, false, cond, nat_eq, List, [], ◌∷◌, ◌++◌, length, map, refl, sym, ◌∙◌, ap, subst, Some, slice_get, slice_set, remove, get_or, Option, add-one, MatchOption, option_map, drop, Result, Ok, Err, OnErr, None}
use Rattle.std.specs.List.{filter, flat_map}
use Rattle.std.proofs.lemmas.List.{get_or_default}
use Rattle.std.proofs.lemmas.Bool.Decides.{Decides-eqb}
use Rattle.nk_values.specs.Members.{IsIn}
use Rattle.flow_index.proofs.Lists.{none-some, some-is, within-at}

-- ---- numbers that are equal, or not

pub eq-same : (a b : ℕ) → a ≡ b → nat_eq a b ≡ true
eq-same a b e = (Decides-eqb a b).1 e

pub eq-is : (a b : ℕ) → nat_eq a b ≡ true → a ≡ b
eq-is a b e = (Decides-eqb a b).0 e

pub true-false : {P : Type 0} (b : Bool) → b ≡ true → b ≡ false → P
true-false b p q = absurd (let no : true ≡ false = sym p ∙ q in cc)

pub decide : (b : Bool) → (b ≡ true) ⊎ (b ≡ false)
decide true = inl refl
decide false = inr refl

pub eq-other : (a b : ℕ) → a ≢ b → nat_eq a b ≡ false
eq-other a b d = elim (decide (nat_eq a b)) [
  | inl e ↦ absurd (d (eq-is a b e))
  | inr e ↦ e
]

pub eq-differ : (a b : ℕ) → nat_eq a b ≡ false → a ≢ b
eq-differ a b e p = true-false (nat_eq a b) (eq-same a b p) e

-- ---- places

pub map-at : {X Y : Type 0} (f : X → Y) (xs : List X) (k : ℕ) (x : X) → slice_get xs k ≡ Some x → slice_get (map f xs) k ≡ Some (f x)
map-at f [] k x e = none-some x e
map-at f (y ∷ ys) zero x e = ap (λ z. Some (f z)) (some-is y x e)
map-at f (y ∷ ys) (suc k) x e = map-at f ys k x e

pub in-map : {X Y : Type 0} (f : X → Y) (xs : List X) (x : X) → IsIn xs x → IsIn (map f xs) (f x)
in-map f [] x h = absurd h
in-map f (y ∷ ys) x (inl e) = inl (ap f e)
in-map f (y ∷ ys) x (inr h) = inr (in-map f ys x h)

pub in-end : {X : Type 0} (xs : List X) (y x : X) → IsIn (xs ++ y ∷ []) x → IsIn xs x ⊎ (y ≡ x)
in-end [] y x (inl e) = inr e
in-end [] y x (inr h) = absurd h
in-end (z ∷ xs) y x (inl e) = inl (inl e)
in-end (z ∷ xs) y x (inr h) = elim (in-end xs y x h) [ inl k ↦ inl (inr k) | inr k ↦ inr k ]

-- what an iterator that reads at a place gives, and what it leaves
pub first-left : {R X : Type 0} (now : R → X) (xs : List X) (k : ℕ) (r : Option R) → option_map now r ≡ slice_get xs k → k < length xs →
    MatchOption r ((drop k xs ≡ []) × (drop (k + 1) xs ≡ [])) (λ x. drop k xs ≡ now x ∷ drop (k + 1) xs)
first-left {R} {X} now xs k None e l = let there = within-at xs k l in none-some there.0 (e ∙ there.1)
first-left {R} {X} now xs k (Some x) e l = rw add-one (at-place xs k (now x) (sym e))
  where
    at-place : (ys : List X) (j : ℕ) (y : X) → slice_get ys j ≡ Some y → drop j ys ≡ y ∷ drop (suc j) ys
    at-place [] j y q = none-some y q
    at-place (z ∷ zs) zero y q = ap (λ (w : X). w ∷ zs) (some-is z y q)
    at-place (z ∷ zs) (suc j) y q = at-place zs j y q

-- a list that is what an index reads of lists of lists
pub read-list : {X : Type 0} (xss : List (List X)) (k : ℕ) (xs : List X) → k < length xss → xs ≡ get_or xss k xs → xs ≡ get_or xss k []
read-list xss k xs l e = e ∙ get_or_default xss k xs [] l

-- a test that tells that something is there
pub no-none : {P : Type 0} → false ≡ true → P
no-none e = true-false false e refl

pub any-err : {T E P : Type 0} (r : Result T E) → P → OnErr r P
any-err (Ok x) p = tt
any-err (Err e) p = p

-- ---- what passes a test

module _ {X : Type 0} (p : X → Bool) where
  pub kept : (x : X) (xs : List X) → p x ≡ true → filter p (x ∷ xs) ≡ x ∷ filter p xs
  kept x xs e = ap (λ (b : Bool). cond b (x ∷ filter p xs) (filter p xs)) e

  pub left : (x : X) (xs : List X) → p x ≡ false → filter p (x ∷ xs) ≡ filter p xs
  left x xs e = ap (λ (b : Bool). cond b (x ∷ filter p xs) (filter p xs)) e

  pub in-filter : (xs : List X) (x : X) → IsIn xs x → p x ≡ true → IsIn (filter p xs) x
  in-filter [] x h e = absurd h
  in-filter (y ∷ ys) x (inl q) e = subst (λ (zs : List X). IsIn zs x) (sym (kept y ys (ap p q ∙ e))) (inl q)
  in-filter (y ∷ ys) x (inr h) e = elim (decide (p y)) [
    | inl q ↦ subst (λ (zs : List X). IsIn zs x) (sym (kept y ys q)) (inr (in-filter ys x h e))
    | inr q ↦ subst (λ (zs : List X). IsIn zs x) (sym (left y ys q)) (in-filter ys x h e)
  ]

  pub from-filter : (xs : List X) (x : X) → IsIn (filter p xs) x → IsIn xs x
  from-filter [] x h = absurd h
  from-filter (y ∷ ys) x h = elim (decide (p y)) [
    | inl q ↦ elim (let k : IsIn (y ∷ filter p ys) x = subst (λ (zs : List X). IsIn zs x) (kept y ys q) h in k) [ inl e ↦ inl e | inr k ↦ inr (from-filter ys x k) ]
    | inr q ↦ inr (from-filter ys x (subst (λ (zs : List X). IsIn zs x) (left y ys q) h))
  ]

  pub passes : (xs : List X) (x : X) → IsIn (filter p xs) x → p x ≡ true
  passes [] x h = absurd h
  passes (y ∷ ys) x h = elim (decide (p y)) [
    | inl q ↦ elim (let k : IsIn (y ∷ filter p ys) x = subst (λ (zs : List X). IsIn zs x) (kept y ys q) h in k) [ inl e ↦ ap p (sym e) ∙ q | inr k ↦ passes ys x k ]
    | inr q ↦ passes ys x (subst (λ (zs : List X). IsIn zs x) (left y ys q) h)
  ]

  pub filter-end : (xs : List X) (x : X) → p x ≡ true → filter p (xs ++ x ∷ []) ≡ filter p xs ++ x ∷ []
  filter-end [] x e = kept x [] e
  filter-end (y ∷ ys) x e = elim (decide (p y)) [
    | inl q ↦ kept y (ys ++ x ∷ []) q ∙ ap (λ (zs : List X). y ∷ zs) (filter-end ys x e) ∙ ap (λ (zs : List X). zs ++ x ∷ []) (sym (kept y ys q))
    | inr q ↦ left y (ys ++ x ∷ []) q ∙ filter-end ys x e ∙ ap (λ (zs : List X). zs ++ x ∷ []) (sym (left y ys q))
  ]

  pub filter-end-not : (xs : List X) (x : X) → p x ≡ false → filter p (xs ++ x ∷ []) ≡ filter p xs
  filter-end-not [] x e = left x [] e
  filter-end-not (y ∷ ys) x e = ap (λ (zs : List X). cond (p y) (y ∷ zs) zs) (filter-end-not ys x e)

  -- one that does not pass goes, or gives way to another that does not
  pub filter-remove : (xs : List X) (k : ℕ) (x : X) → slice_get xs k ≡ Some x → p x ≡ false → filter p (remove xs k) ≡ filter p xs
  filter-remove [] k x q e = none-some x q
  filter-remove (y ∷ ys) zero x q e = sym (left y ys (ap p (some-is y x q) ∙ e))
  filter-remove (y ∷ ys) (suc k) x q e = ap (λ (zs : List X). cond (p y) (y ∷ zs) zs) (filter-remove ys k x q e)

  pub filter-set : (xs : List X) (k : ℕ) (x y : X) → slice_get xs k ≡ Some x → p x ≡ false → p y ≡ false → filter p (slice_set xs k y) ≡ filter p xs
  filter-set [] k x y q e f = none-some x q
  filter-set (z ∷ zs) zero x y q e f = left y zs f ∙ sym (left z zs (ap p (some-is z x q) ∙ e))
  filter-set (z ∷ zs) (suc k) x y q e f = ap (λ (ws : List X). cond (p z) (z ∷ ws) ws) (filter-set zs k x y q e f)

-- two tests, in either order
pub filter-swap : {X : Type 0} (p q : X → Bool) (xs : List X) → filter p (filter q xs) ≡ filter q (filter p xs)
filter-swap p q [] = refl
filter-swap {X} p q (x ∷ xs) = elim (decide (p x)) [
  | inl e ↦ elim (decide (q x)) [
    | inl f ↦ ap (filter p) (kept q x xs f) ∙ kept p x (filter q xs) e ∙ ap (λ (zs : List X). x ∷ zs) (filter-swap p q xs) ∙ sym (kept q x (filter p xs) f) ∙ ap (filter q) (sym (kept p x xs e))
    | inr f ↦ ap (filter p) (left q x xs f) ∙ filter-swap p q xs ∙ sym (left q x (filter p xs) f) ∙ ap (filter q) (sym (kept p x xs e))
  ]
  | inr e ↦ elim (decide (q x)) [
    | inl f ↦ ap (filter p) (kept q x xs f) ∙ left p x (filter q xs) e ∙ filter-swap p q xs ∙ ap (filter q) (sym (left p x xs e))
    | inr f ↦ ap (filter p) (left q x xs f) ∙ filter-swap p q xs ∙ ap (filter q) (sym (left p x xs e))
  ]
]

-- a test of what a function gives
pub filter-map : {X Y : Type 0} (f : X → Y) (p : Y → Bool) (xs : List X) → map f (filter (λ x. p (f x)) xs) ≡ filter p (map f xs)
filter-map f p [] = refl
filter-map {X} {Y} f p (x ∷ xs) = elim (decide (p (f x))) [
  | inl e ↦ ap (map f) (kept (λ z. p (f z)) x xs e) ∙ ap (λ (zs : List Y). f x ∷ zs) (filter-map f p xs) ∙ sym (kept p (f x) (map f xs) e)
  | inr e ↦ ap (map f) (left (λ z. p (f z)) x xs e) ∙ filter-map f p xs ∙ sym (left p (f x) (map f xs) e)
]
  where
    q : X → Bool
    q z = p (f z)

-- a function that keeps what is tested
pub map-filter : {X : Type 0} (f : X → X) (p : X → Bool) → ((x : X) → p (f x) ≡ p x) → (xs : List X) → filter p (map f xs) ≡ map f (filter p xs)
map-filter f p same [] = refl
map-filter {X} f p same (x ∷ xs) = elim (decide (p x)) [
  | inl e ↦ kept p (f x) (map f xs) (same x ∙ e) ∙ ap (λ (zs : List X). f x ∷ zs) (map-filter f p same xs) ∙ sym (ap (map f) (kept p x xs e))
  | inr e ↦ left p (f x) (map f xs) (same x ∙ e) ∙ map-filter f p same xs ∙ sym (ap (map f) (left p x xs e))
]

pub filter-all : {X : Type 0} (p : X → Bool) (xs : List X) → ((x : X) → IsIn xs x → p x ≡ true) → filter p xs ≡ xs
filter-all p [] h = refl
filter-all {X} p (x ∷ xs) h = kept p x xs (h x (inl refl)) ∙ ap (λ (zs : List X). x ∷ zs) (filter-all p xs (λ y k. h y (inr k)))

-- ---- lists of one element each, joined

module _ {X A : Type 0} where
  pub same-flat : (g h : X → List A) (xs : List X) → ((x : X) → IsIn xs x → g x ≡ h x) → flat_map g xs ≡ flat_map h xs
  same-flat g h [] e = refl
  same-flat g h (x ∷ xs) e = λ i. e x (inl refl) i ++ same-flat g h xs (λ y k. e y (inr k)) i

  pub flat-map : (g : X → List A) (h : X → List A) (f : X → X) (xs : List X) → ((x : X) → IsIn xs x → g (f x) ≡ h x) → flat_map g (map f xs) ≡ flat_map h xs
  flat-map g h f [] e = refl
  flat-map g h f (x ∷ xs) e = λ i. e x (inl refl) i ++ flat-map g h f xs (λ y k. e y (inr k)) i

  -- each gives one
  abbrev pub AreSingle : (X → List A) → List X → Type 0
  AreSingle g xs = (x : X) → IsIn xs x → (a : A) × (g x ≡ a ∷ [])

  -- what passes of what they give, where a test of the elements tells it
  pub filter-single : (g : X → List A) (p : A → Bool) (q : X → Bool) (xs : List X) → AreSingle g xs → ((x : X) (a : A) → IsIn xs x → g x ≡ a ∷ [] → p a ≡ q x) → filter p (flat_map g xs) ≡ flat_map g (filter q xs)
  filter-single g p q [] one same = refl
  filter-single g p q (x ∷ xs) one same =
      let head = one x (inl refl) in
      let rest = filter-single g p q xs (λ y k. one y (inr k)) (λ y a k. same y a (inr k)) in
      let tells : p head.0 ≡ q x = same x head.0 (inl refl) head.1 in
      ap (λ (zs : List A). filter p (zs ++ flat_map g xs)) head.1
      ∙ elim (decide (q x)) [
        | inl t ↦ kept p head.0 (flat_map g xs) (tells ∙ t) ∙ ap (λ (zs : List A). head.0 ∷ zs) rest ∙ ap (λ (zs : List A). zs ++ flat_map g (filter q xs)) (sym head.1) ∙ ap (flat_map g) (sym (kept q x xs t))
        | inr f ↦ left p head.0 (flat_map g xs) (tells ∙ f) ∙ rest ∙ ap (flat_map g) (sym (left q x xs f))
      ]

  pub single-length : (g : X → List A) (xs : List X) → AreSingle g xs → length (flat_map g xs) ≡ length xs
  single-length g [] one = refl
  single-length g (x ∷ xs) one =
      let head = one x (inl refl) in
      ap (λ (zs : List A). length (zs ++ flat_map g xs)) head.1 ∙ ap (λ (n : ℕ). suc n) (single-length g xs (λ y k. one y (inr k)))

  pub single-get : (g : X → List A) (xs : List X) (k : ℕ) (x : X) (a : A) → AreSingle g xs → slice_get xs k ≡ Some x → g x ≡ a ∷ [] → slice_get (flat_map g xs) k ≡ Some a
  single-get g [] k x a one q e = none-some x q
  single-get g (y ∷ ys) zero x a one q e = ap (λ (zs : List A). slice_get (zs ++ flat_map g ys) 0) (ap g (some-is y x q) ∙ e)
  single-get g (y ∷ ys) (suc k) x a one q e =
      let head = one y (inl refl) in
      ap (λ (zs : List A). slice_get (zs ++ flat_map g ys) (suc k)) head.1 ∙ single-get g ys k x a (λ z h. one z (inr h)) q e

  pub single-remove : (g : X → List A) (xs : List X) (k : ℕ) → AreSingle g xs → flat_map g (remove xs k) ≡ remove (flat_map g xs) k
  single-remove g [] zero one = refl
  single-remove g [] (suc k) one = refl
  single-remove g (x ∷ xs) zero one =
      let head = one x (inl refl) in
      sym (ap (λ (zs : List A). remove (zs ++ flat_map g xs) 0) head.1)
  single-remove g (x ∷ xs) (suc k) one =
      let head = one x (inl refl) in
      ap (λ (zs : List A). zs ++ flat_map g (remove xs k)) head.1 ∙ ap (λ (zs : List A). head.0 ∷ zs) (single-remove g xs k (λ y h. one y (inr h)))
      ∙ sym (ap (λ (zs : List A). remove (zs ++ flat_map g xs) (suc k)) head.1)
