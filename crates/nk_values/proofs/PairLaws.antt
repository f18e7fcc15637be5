-- Lists in which a relation holds of each element and each later one.
use Rattle.std.proofs.Common.{◌≡◌, ℕ, zero, suc, ◌<◌, ◌⊎◌, inl, inr, Bool, true, false, List, [], ◌∷◌, ◌++◌, map, refl, sym, ◌∙◌, subst, if◌then◌else◌, Some, slice_get, arith}
use Rattle.std.specs.List.{flat_map}
use Rattle.nk_values.specs.Members.{IsIn, Pairs}
use Rattle.nk_values.proofs.MemberLaws.{in-left, in-right, in-either, from-map, from-flat_map}

in-place : {X : Type 0} (xs : List X) (k : ℕ) (x : X) → slice_get xs k ≡ Some x → IsIn xs x
in-place [] k x e = absurd (cc)
in-place (y ∷ xs) zero x e = inl (cc)
in-place (y ∷ xs) (suc k) x e = inr (in-place xs k x e)

pub pairs-append : {X : Type 0} (R : X → X → Type 0) (xs ys : List X) → Pairs R xs → Pairs R ys → ((x y : X) → IsIn xs x → IsIn ys y → R x y) → Pairs R (xs ++ ys)
pairs-append R [] ys h k across = k
pairs-append R (x ∷ xs) ys h k across = (
  (λ y m. elim (in-either xs ys y m) [ inl a ↦ h.0 y a | inr b ↦ across x y (inl refl) b ]),
  pairs-append R xs ys h.1 k (λ a b m n. across a b (inr m) n),
)

pub pairs-left : {X : Type 0} (R : X → X → Type 0) (xs ys : List X) → Pairs R (xs ++ ys) → Pairs R xs
pairs-left R [] ys h = tt
pairs-left R (x ∷ xs) ys h = ((λ y m. h.0 y (in-left xs ys y m)), pairs-left R xs ys h.1)

pub pairs-right : {X : Type 0} (R : X → X → Type 0) (xs ys : List X) → Pairs R (xs ++ ys) → Pairs R ys
pairs-right R [] ys h = h
pairs-right R (x ∷ xs) ys h = pairs-right R xs ys h.1

pub pairs-across : {X : Type 0} (R : X → X → Type 0) (xs ys : List X) (x y : X) → Pairs R (xs ++ ys) → IsIn xs x → IsIn ys y → R x y
pairs-across R [] ys x y h m n = absurd m
pairs-across R (z ∷ xs) ys x y h (inl e) n = subst (λ a. R a y) e (h.0 y (in-right xs ys y n))
pairs-across R (z ∷ xs) ys x y h (inr m) n = pairs-across R xs ys x y h.1 m n

-- of two elements the one comes before the other, or they are the same
pub pairs-of : {X : Type 0} (R : X → X → Type 0) (xs : List X) (x y : X) → Pairs R xs → IsIn xs x → IsIn xs y → (x ≡ y) ⊎ (R x y ⊎ R y x)
pairs-of R [] x y h m n = absurd m
pairs-of R (z ∷ xs) x y h (inl d) (inl e) = inl (sym d ∙ e)
pairs-of R (z ∷ xs) x y h (inl d) (inr n) = inr (inl (subst (λ a. R a y) d (h.0 y n)))
pairs-of R (z ∷ xs) x y h (inr m) (inl e) = inr (inr (subst (λ a. R a x) e (h.0 x m)))
pairs-of R (z ∷ xs) x y h (inr m) (inr n) = pairs-of R xs x y h.1 m n

pub pairs-weaker : {X : Type 0} (Q R : X → X → Type 0) (xs : List X) → ((x y : X) → IsIn xs x → IsIn xs y → Q x y → R x y) → Pairs Q xs → Pairs R xs
pairs-weaker Q R [] give h = tt
pairs-weaker Q R (x ∷ xs) give h = ((λ y m. give x y (inl refl) (inr m) (h.0 y m)), pairs-weaker Q R xs (λ a b m n. give a b (inr m) (inr n)) h.1)

pub pairs-map : {X Y : Type 0} (f : X → Y) (R : Y → Y → Type 0) (xs : List X) → Pairs (λ x y. R (f x) (f y)) xs → Pairs R (map f xs)
pairs-map f R [] h = tt
pairs-map f R (x ∷ xs) h = ((λ y m. let r = from-map f xs y m in subst (λ z. R (f x) z) r.2 (h.0 r.0 r.1)), pairs-map f R xs h.1)

-- of lists that elements make, where what two of them make is related
pub pairs-flat_map : {X Y : Type 0} (g : X → List Y) (Q : X → X → Type 0) (R : Y → Y → Type 0) (xs : List X) → Pairs Q xs → ((x : X) → IsIn xs x → Pairs R (g x)) →
    ((x z : X) (y w : Y) → IsIn xs x → IsIn xs z → Q x z → IsIn (g x) y → IsIn (g z) w → R y w) → Pairs R (flat_map g xs)
pairs-flat_map g Q R [] h each across = tt
pairs-flat_map g Q R (x ∷ xs) h each across =
    pairs-append R (g x) (flat_map g xs) (each x (inl refl)) (pairs-flat_map g Q R xs h.1 (λ a m. each a (inr m)) (λ a b y w m n. across a b y w (inr m) (inr n)))
    (λ y w m n. let r = from-flat_map g xs w n in across x r.0 y w (inl refl) (inr r.1) (h.0 r.0 r.1) m r.2)

-- one element, or none
pub pairs-one : {X : Type 0} (R : X → X → Type 0) (b : Bool) (x : X) → Pairs R (if b then x ∷ [] else [])
pairs-one R true x = ((λ y m. absurd m), tt)
pairs-one R false x = tt

-- what is taken out of the middle
pub pairs-without : {X : Type 0} (R : X → X → Type 0) (xs : List X) (x : X) (ys : List X) → Pairs R (xs ++ x ∷ ys) → Pairs R (xs ++ ys)
pairs-without R xs x ys h = pairs-append R xs ys (pairs-left R xs (x ∷ ys) h) (pairs-right R xs (x ∷ ys) h).1 (λ a b m n. pairs-across R xs (x ∷ ys) a b h m (inr n))

-- it is so of two places, of which one comes first
pub pairs-at : {X : Type 0} (R : X → X → Type 0) (xs : List X) (j k : ℕ) (x y : X) → Pairs R xs → slice_get xs j ≡ Some x → slice_get xs k ≡ Some y → j < k → R x y
pairs-at R [] j k x y h d e l = absurd (cc)
pairs-at R (z ∷ xs) zero zero x y h d e l = absurd (omega (arith, l))
pairs-at R (z ∷ xs) zero (suc k) x y h d e l =
    let same : z ≡ x = cc in
    subst (λ a. R a y) same (h.0 y (in-place xs k y e))
pairs-at R (z ∷ xs) (suc j) zero x y h d e l = absurd (omega (arith, l))
pairs-at R (z ∷ xs) (suc j) (suc k) x y h d e l = pairs-at R xs j k x y h.1 d e (omega (arith, l))
