-- Which packets are on a path, and how a walk goes back.
use Rattle.std.proofs.Common.{◌≡◌, inl, inr, refl, ap, sym, ◌∙◌, subst, List, [], ◌∷◌, ◌++◌}
use Rattle.nk_values.specs.declared.packet.Packet.{Packet}
use Rattle.nk_values.specs.declared.lit.Lit.{Lit}
use Rattle.nk_values.specs.Held.{Holds}
use Rattle.nk_values.specs.Members.{IsIn}
use Rattle.fdd_nodes.specs.Paths.{Way, with_true, with_false, HasAll, HasNone}

pub all_held : (ls : List Lit) (p : Packet) → HasAll ls p → (l : Lit) → IsIn ls l → Holds p l
all_held [] p h l k = absurd k
all_held (m ∷ ls) p h l (inl e) = subst (λ (z : Lit). Holds p z) e h.0
all_held (m ∷ ls) p h l (inr k) = all_held ls p h.1 l k

pub held_all : (ls : List Lit) (p : Packet) → ((l : Lit) → IsIn ls l → Holds p l) → HasAll ls p
held_all [] p h = tt
held_all (m ∷ ls) p h = (h m (inl refl), held_all ls p (λ l k. h l (inr k)))

pub none_held : (ls : List Lit) (p : Packet) → HasNone ls p → (l : Lit) → IsIn ls l → ¬ Holds p l
none_held [] p h l k = absurd k
none_held (m ∷ ls) p h l (inl e) = subst (λ (z : Lit). ¬ Holds p z) e h.0
none_held (m ∷ ls) p h l (inr k) = none_held ls p h.1 l k

pub held_none : (ls : List Lit) (p : Packet) → ((l : Lit) → IsIn ls l → ¬ Holds p l) → HasNone ls p
held_none [] p h = tt
held_none (m ∷ ls) p h = (h m (inl refl), held_none ls p (λ l k. h l (inr k)))

-- a list without its last element
abbrev front : List Lit → List Lit
front [] = []
front (x ∷ []) = []
front (x ∷ y ∷ zs) = x ∷ front (y ∷ zs)

front-append : (xs : List Lit) (l : Lit) → front (xs ++ l ∷ []) ≡ xs
front-append [] l = refl
front-append (x ∷ []) l = refl
front-append (x ∷ y ∷ zs) l = ap (λ us. x ∷ us) (front-append (y ∷ zs) l)

-- where a test was added and one is taken away, the path is as it was
pub back_from_true : (v w : Way) (l m : Lit) → with_true v l ≡ with_true w m → w ≡ v
back_from_true v w l m e = λ i. record {
  trues = let t = sym (front-append w.trues m) ∙ sym (ap (λ (u : Way). front u.trues) e) ∙ front-append v.trues l in t i;
  falses = let t = sym (ap (λ (u : Way). u.falses) e) in t i;
}

pub back_from_false : (v w : Way) (l m : Lit) → with_false v l ≡ with_false w m → w ≡ v
back_from_false v w l m e = λ i. record {
  trues = let t = sym (ap (λ (u : Way). u.trues) e) in t i;
  falses = let t = sym (front-append w.falses m) ∙ sym (ap (λ (u : Way). front u.falses) e) ∙ front-append v.falses l in t i;
}
