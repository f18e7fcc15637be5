-- First literals with a property.
use Rattle.std.proofs.Common.{◌≡◌, ◌⊎◌, inl, inr, refl, sym, ap, subst, arith, Option, Some, None}
use Rattle.nk_values.specs.declared.lit.Lit.{Lit}
use Rattle.nk_values.specs.Ranks.{rank}
use Rattle.fdd_split.specs.Pairs.{IsBefore, IsEarlier, IsFirstOf, IsFirstWith}

none_some : (x : Lit) → ¬ (None ≡ Some x)
none_some x e = cc

some_same : (l x : Lit) → Some l ≡ Some x → l ≡ x
some_same l x e = cc

pub first_none : (T : Lit → Type 0) (o : Option Lit) → IsFirstOf T o → o ≡ None → (x : Lit) → ¬ T x
first_none T o h e = subst (λ (z : Option Lit). IsFirstOf T z) e h

pub first_as : (T V : Lit → Type 0) (o : Option Lit) → ((x : Lit) → T x → V x) → ((x : Lit) → V x → T x) → IsFirstOf T o → IsFirstOf V o
first_as T V None f g h = λ x v. h x (g x v)
first_as T V (Some l) f g h = (f l h.0, λ x v. h.1 x (g x v))

pub first_joined : (T U V : Lit → Type 0) (a b r : Option Lit) → ((x : Lit) → T x → V x) → ((x : Lit) → U x → V x) → ((x : Lit) → V x → T x ⊎ U x) → IsFirstOf T a → IsFirstOf U b → IsEarlier a b r → IsFirstOf V r
first_joined T U V None b r f g o ha hb e =
    subst (λ (z : Option Lit). IsFirstOf V z) (sym e) (first_as U V b g (λ x v. elim (o x v) [ inl t ↦ absurd (ha x t) | inr u ↦ u ]) hb)
first_joined T U V (Some l) None r f g o ha hb e =
    subst (λ (z : Option Lit). IsFirstOf V z) (sym e) (first_as T V (Some l) f (λ x v. elim (o x v) [ inl t ↦ t | inr u ↦ absurd (hb x u) ]) ha)
first_joined T U V (Some l) (Some m) r f g o ha hb (inl e) =
    subst (λ (z : Option Lit). IsFirstOf V z) (sym e.0)
    (f l ha.0, λ x v. elim (o x v) [ inl t ↦ ha.1 x t | inr u ↦ let z = hb.1 x u in omega (arith, z, e.1) ])
first_joined T U V (Some l) (Some m) r f g o ha hb (inr e) =
    subst (λ (z : Option Lit). IsFirstOf V z) (sym e.0)
    (g m hb.0, λ x v. elim (o x v) [ inl t ↦ let z = ha.1 x t in omega (arith, z, e.1) | inr u ↦ hb.1 x u ])

-- the first stays as it is, if nothing that is added comes before it
pub first_stays : (T U V : Lit → Type 0) (o : Option Lit) → ((x : Lit) → T x → V x) → ((x : Lit) → V x → T x ⊎ U x) → IsFirstOf T o → ((x : Lit) → U x → ¬ IsBefore x o) → IsFirstOf V o
first_stays T U V None f g h n = λ x v. elim (g x v) [ inl t ↦ h x t | inr u ↦ n x u tt ]
first_stays T U V (Some l) f g h n =
    (f l h.0, λ x v. elim (g x v) [ inl t ↦ h.1 x t | inr u ↦ let m = n x u in omega (arith, m) ])

-- an earlier one is the first, if it is all that is added
pub first_moves : (T U V : Lit → Type 0) (o : Option Lit) (l : Lit) → V l → ((x : Lit) → V x → T x ⊎ U x) → IsFirstOf T o → IsBefore l o → ((x : Lit) → U x → x ≡ l) → IsFirstOf V (Some l)
first_moves T U V None l v g h b e =
    (v, λ x w. elim (g x w) [ inl t ↦ absurd (h x t) | inr u ↦ let r = ap rank (e x u) in omega (arith, r) ])
first_moves T U V (Some m) l v g h b e =
    (v, λ x w. elim (g x w) [ inl t ↦ let r = h.1 x t in omega (arith, r, b) | inr u ↦ let r = ap rank (e x u) in omega (arith, r) ])

-- a literal that was found is the first of itself
pub first_found : (o : Option Lit) → IsFirstOf (λ x. o ≡ Some x) o
first_found None = λ x e. none_some x e
first_found (Some l) = (refl, λ x e. let r = ap rank (some_same l x e) in omega (arith, r))

-- the first of what was found and of more
pub first_with : (T P : Lit → Type 0) (found o : Option Lit) → IsFirstOf T found → IsFirstWith found P o → IsFirstOf (λ x. T x ⊎ P x) o
first_with T P None o h w =
    first_as (λ x. (None ≡ Some x) ⊎ P x) (λ x. T x ⊎ P x) o
    (λ x v. elim v [ inl e ↦ absurd (none_some x e) | inr p ↦ inr p ])
    (λ x v. elim v [ inl t ↦ absurd (h x t) | inr p ↦ inr p ])
    w
first_with T P (Some m) None h w = absurd (w m (inl refl))
first_with T P (Some m) (Some l) h w = (
  elim w.0 [ inl e ↦ inl (subst T (some_same m l e) h.0) | inr p ↦ inr p ],
  λ x v. elim v [ inl t ↦ let a = w.1 m (inl refl) in let b = h.1 x t in omega (arith, a, b) | inr p ↦ w.1 x (inr p) ],
)
