-- The order of a list does not matter for whether each element comes once.
use Rattle.std.proofs.Common.{◌≡◌, ◌≢◌, ℕ, zero, suc, ◌<◌, ◌⊎◌, inl, inr, List, [], ◌∷◌, length, get_or, refl, sym, ◌∙◌, ap, subst, arith}
use Rattle.std.proofs.lemmas.List.Edits.{swapped_from_swap, length-swap}
use Rattle.std.proofs.lemmas.List.Sorted.{IsPermutation-keeps}
use Rattle.std.specs.List.{swap}
use Rattle.std.specs.List.Sorted.{IsPermutation}
use native.Mathlib.Decide.{ℕ_discrete}
use Rattle.nk_values.specs.Members.{IsIn, EachOnce}

-- two places with one element are one place
abbrev OncePlaced : {X : Type 0} → List X → Type 0
OncePlaced {X} xs = (m n : ℕ) (d : X) → m < length xs → n < length xs → get_or xs m d ≡ get_or xs n d → m ≡ n

in-get : {X : Type 0} (xs : List X) (k : ℕ) (d : X) → k < length xs → IsIn xs (get_or xs k d)
in-get [] k d l = absurd (omega (arith, l))
in-get (x ∷ xs) zero d l = inl refl
in-get (x ∷ xs) (suc k) d l = inr (in-get xs k d (omega (arith, l)))

get-in : {X : Type 0} (xs : List X) (x d : X) → IsIn xs x → (k : ℕ) × (k < length xs) × (get_or xs k d ≡ x)
get-in [] x d m = absurd m
get-in (y ∷ ys) x d (inl e) = (0, omega arith, e)
get-in (y ∷ ys) x d (inr m) = let r = get-in ys x d m in (suc r.0, omega (arith, r.1), r.2)

once-placed : {X : Type 0} (xs : List X) → EachOnce xs → OncePlaced xs
once-placed [] h m n d k l e = absurd (omega (arith, k))
once-placed (x ∷ xs) h zero zero d k l e = refl
once-placed (x ∷ xs) h zero (suc n) d k l e = absurd (h.0 (get_or xs n d) (in-get xs n d (omega (arith, l))) e)
once-placed (x ∷ xs) h (suc m) zero d k l e = absurd (h.0 (get_or xs m d) (in-get xs m d (omega (arith, k))) (sym e))
once-placed (x ∷ xs) h (suc m) (suc n) d k l e = ap (λ (i : ℕ). suc i) (once-placed xs h.1 m n d (omega (arith, k)) (omega (arith, l)) e)

placed-once : {X : Type 0} (xs : List X) → OncePlaced xs → EachOnce xs
placed-once [] h = tt
placed-once (x ∷ xs) h = (
  (λ y m e. let r = get-in xs y x m in let far = r.1 in let clash : 0 ≡ suc r.0 = h 0 (suc r.0) x (omega arith) (omega (arith, far)) (e ∙ sym r.2) in omega (arith, clash)),
  placed-once xs (λ m n d k l e. let s = h (suc m) (suc n) d (omega (arith, k)) (omega (arith, l)) e in omega (arith, s)),
)

-- where the element of a place stood before two of them changed places
record Stood {X : Type 0} (xs ys : List X) (i j m : ℕ) (d : X) : Type 0 where
  place : ℕ
  within : place < length xs
  same : get_or ys m d ≡ get_or xs place d
  turned : ((m ≡ i) × (place ≡ j)) ⊎ (((m ≡ j) × (place ≡ i)) ⊎ ((m ≢ i) × (m ≢ j) × (place ≡ m)))

stood : {X : Type 0} (xs : List X) (i j m : ℕ) (d : X) → i < length xs → j < length xs → m < length xs → Stood xs (swap xs i j) i j m d
stood xs i j m d a b c =
    let s = swapped_from_swap xs (swap xs i j) i j d a b refl in
    elim (ℕ_discrete m i) [
      | yes e ↦ record { place = j; within = b; same = ap (λ (k : ℕ). get_or (swap xs i j) k d) e ∙ s.0; turned = inl (e, refl) }
      | no n ↦ elim (ℕ_discrete m j) [
        | yes e ↦ record { place = i; within = a; same = ap (λ (k : ℕ). get_or (swap xs i j) k d) e ∙ s.1; turned = inr (inl (e, refl)) }
        | no o ↦ record { place = m; within = c; same = s.2 m n o; turned = inr (inr (n, o, refl)) }
      ]
    ]

-- places that stood at one place are one
one-stood : (i j m n a b : ℕ) → ((m ≡ i) × (a ≡ j)) ⊎ (((m ≡ j) × (a ≡ i)) ⊎ ((m ≢ i) × (m ≢ j) × (a ≡ m))) → ((n ≡ i) × (b ≡ j)) ⊎ (((n ≡ j) × (b ≡ i)) ⊎ ((n ≢ i) × (n ≢ j) × (b ≡ n))) → a ≡ b → m ≡ n
one-stood i j m n a b (inl x) (inl y) e = x.0 ∙ sym y.0
one-stood i j m n a b (inl x) (inr (inl y)) e = x.0 ∙ sym y.1 ∙ sym e ∙ x.1 ∙ sym y.0
one-stood i j m n a b (inl x) (inr (inr y)) e = absurd (y.1 (sym y.2 ∙ sym e ∙ x.1))
one-stood i j m n a b (inr (inl x)) (inl y) e = x.0 ∙ sym y.1 ∙ sym e ∙ x.1 ∙ sym y.0
one-stood i j m n a b (inr (inl x)) (inr (inl y)) e = x.0 ∙ sym y.0
one-stood i j m n a b (inr (inl x)) (inr (inr y)) e = absurd (y.0 (sym y.2 ∙ sym e ∙ x.1))
one-stood i j m n a b (inr (inr x)) (inl y) e = absurd (x.1 (sym x.2 ∙ e ∙ y.1))
one-stood i j m n a b (inr (inr x)) (inr (inl y)) e = absurd (x.0 (sym x.2 ∙ e ∙ y.1))
one-stood i j m n a b (inr (inr x)) (inr (inr y)) e = sym x.2 ∙ e ∙ y.2

swap-placed : {X : Type 0} (xs : List X) (i j : ℕ) → i < length xs → j < length xs → OncePlaced xs → OncePlaced (swap xs i j)
swap-placed xs i j a b h m n d k l e =
    let long = length-swap xs i j in
    let s = stood xs i j m d a b (omega (arith, k, long)) in
    let t = stood xs i j n d a b (omega (arith, l, long)) in
    one-stood i j m n s.place t.place s.turned t.turned (h s.place t.place d s.within t.within (sym s.same ∙ e ∙ t.same))

pub once-permuted : (X : Type 0) (xs ys : List X) → IsPermutation xs ys → EachOnce xs → EachOnce ys
once-permuted X xs ys p h = placed-once ys (IsPermutation-keeps xs OncePlaced (once-placed xs h) (λ l i j a b k. swap-placed l i j a b k) ys p)

-- no element is among the later ones
abbrev pub NoneTwice : {X : Type 0} → List X → Type 0
NoneTwice [] = Unit {0}
NoneTwice (x ∷ xs) = (¬ IsIn xs x) × NoneTwice xs

pub once-none_twice : {X : Type 0} (xs : List X) → EachOnce xs → NoneTwice xs
once-none_twice [] h = tt
once-none_twice (x ∷ xs) h = ((λ m. h.0 x m refl), once-none_twice xs h.1)

pub none_twice-once : {X : Type 0} (xs : List X) → NoneTwice xs → EachOnce xs
none_twice-once [] h = tt
none_twice-once (x ∷ xs) h = ((λ y m e. h.0 (subst (λ z. IsIn xs z) (sym e) m)), none_twice-once xs h.1)
