-- Chains of copies, and copies of which none is apart from a later one.
use Rattle.std.proofs.Common.{◌≡◌, ◌≢◌, ◌⊎◌, ◌≤◌, ℕ, inl, inr, refl, ap, sym, ◌∙◌, subst, arith, cond, Bool, true, false, ◌==◌, List, [], ◌∷◌, Option, Some, None}
use Rattle.std.specs.Prelude.{◌&&◌, not}
use Rattle.std.proofs.lemmas.Bool.{eqb-true, eqb-false, eq-eqb, ne_eqb}
use Rattle.nk_values.specs.declared.field.Field.{Field}
use Rattle.nk_values.specs.declared.packet.Packet.{Packet}
use Rattle.nk_values.specs.declared.lit.Lit.{Lit}
use Rattle.nk_values.specs.Members.{IsIn}
use Rattle.nk_values.specs.Packets.{get}
use Rattle.nk_values.specs.Ranges.{IsValue}
use Rattle.fdd_nodes.specs.Cells.{unset, IsValid}
use Rattle.fdd_nodes.specs.Trees.{apply}
use Rattle.leaf_actions.specs.declared.route.Route.{Route}
use Rattle.leaf_actions.specs.declared.fault.ActionsFault.{ActionsFault}
use Rattle.leaf_actions.specs.Chains.{loses, keeps_fields, keeps, Climbs}
use Rattle.leaf_actions.specs.Changes.{changes, bit, count_of, change_count, Includes, first_of_fields, goes_beyond, first_beyond}
use Rattle.leaf_actions.specs.Listing.{IsChain, told_apart, apart, or_else, first_from, first_apart}
use Rattle.leaf_actions.specs.Settable.{settable}
use Rattle.leaf_actions.proofs.Fixed.{fixed_apply}

-- what x fixes of the header fields that actions set, y fixes too
pub record Keeps (x y : Packet) : Type 0 where
  pub each : (f : Field) → IsIn settable f → get x f ≢ unset → get y f ≢ unset

none_lost : (x y : Packet) (fs : List Field) → keeps_fields x y fs ≡ true → (f : Field) → IsIn fs f → loses x y f ≡ false
none_lost x y [] h f k = absurd k
none_lost x y (g ∷ fs) h f k = split (loses x y g) refl h (λ r. none_lost x y fs r f) k
  where
    split : (b : Bool) → loses x y g ≡ b → not b && keeps_fields x y fs ≡ true → (keeps_fields x y fs ≡ true → IsIn fs f → loses x y f ≡ false) → IsIn (g ∷ fs) f → loses x y f ≡ false
    split true e h r k = absurd (cc)
    split false e h r (inl i) = ap (loses x y) (sym i) ∙ e
    split false e h r (inr i) = r h i

not_lost : (m n : ℕ) → not (m == unset) && n == unset ≡ false → m ≢ unset → n ≢ unset
not_lost m n h k e = let a : (m == unset) ≡ false = ne_eqb _ _ k in let b : (n == unset) ≡ true = eq-eqb _ _ e in true_false (sym (rw (a, b) at h))
  where
    true_false : false ≡ true → ⊥
    true_false e = cc

pub keeps_of : (x y : Packet) → keeps x y ≡ true → Keeps x y
keeps_of x y h = record { each = λ f k n. not_lost (get x f) (get y f) (none_lost x y settable h f k) n }

lost_none : (m n : ℕ) → (m ≢ unset → n ≢ unset) → not (m == unset) && n == unset ≡ false
lost_none m n h = split (m == unset) refl
  where
    split : (b : Bool) → (m == unset) ≡ b → not (m == unset) && n == unset ≡ false
    split true e = rw e refl
    split false e = rw (e, ne_eqb _ _ (h (eqb-false _ _ e))) refl

all_kept : (x y : Packet) (fs : List Field) → ((f : Field) → IsIn fs f → get x f ≢ unset → get y f ≢ unset) → keeps_fields x y fs ≡ true
all_kept x y [] h = refl
all_kept x y (f ∷ fs) h = let e : loses x y f ≡ false = lost_none (get x f) (get y f) (h f (inl refl)) in ap (λ b. not b && keeps_fields x y fs) e ∙ all_kept x y fs (λ g k. h g (inr k))

pub of_keeps : (x y : Packet) → Keeps x y → keeps x y ≡ true
of_keeps x y h = all_kept x y settable h.each

-- what becomes another number is then fixed, and in range
pub kept_value : (x y : Packet) (f : Field) → keeps x y ≡ true → IsValid y → IsIn settable f → get x f ≢ get y f → IsValue f (get y f)
kept_value x y f k v i n = v.at f (λ e. (keeps_of x y k).each f i (λ d. n (d ∙ sym e)) e)

-- whether a copy changes a field
changed_open : (m n : ℕ) → (m == unset) && not (n == unset) ≡ true → (m ≡ unset) × (n ≢ unset)
changed_open m n h = split (m == unset) (n == unset) refl refl
  where
    split : (a b : Bool) → (m == unset) ≡ a → (n == unset) ≡ b → (m ≡ unset) × (n ≢ unset)
    split true false e k = (eqb-true _ _ e, eqb-false _ _ k)
    split true true e k = let g : true && not true ≡ true = rw (e, k) at h in cc
    split false b e k = let g : false && not (n == unset) ≡ true = rw e at h in cc

open_changed : (m n : ℕ) → m ≡ unset → n ≢ unset → (m == unset) && not (n == unset) ≡ true
open_changed m n e k = rw (eq-eqb _ _ e, ne_eqb _ _ k) refl

includes_of : (x : Packet) (a b : List Lit) → Keeps (apply a x) (apply b x) → Includes x a b
includes_of x a b h = record {
  each = λ f k e. let o = changed_open (get x f) (get (apply a x) f) e in open_changed (get x f) (get (apply b x) f) o.0 (h.each f k o.1);
}

keeps_included : (x : Packet) (a b : List Lit) → Includes x a b → Keeps (apply a x) (apply b x)
keeps_included x a b h = record {
  each = λ f k n. split f k n (get x f == unset) refl;
}
  where
    split : (f : Field) → IsIn settable f → get (apply a x) f ≢ unset → (o : Bool) → (get x f == unset) ≡ o → get (apply b x) f ≢ unset
    split f k n true e = (changed_open (get x f) (get (apply b x) f) (h.each f k (open_changed (get x f) (get (apply a x) f) (eqb-true _ _ e) n))).1
    split f k n false e = fixed_apply b x f (eqb-false _ _ e)

-- each copy of a climbing list is above what it begins with
above : (x y : Packet) (rs : List Route) → Climbs x y rs → (r : Route) → IsIn rs r → Keeps y (apply r.copy x)
above x y [] h r k = absurd k
above x y (s ∷ rs) h r (inl e) = subst (λ (t : Route). Keeps y (apply t.copy x)) e (keeps_of y (apply s.copy x) h.0)
above x y (s ∷ rs) h r (inr k) = record { each = λ f i n. (above x (apply s.copy x) rs h.1 r k).each f i ((keeps_of y (apply s.copy x) h.0).each f i n) }

two : (x y : Packet) (rs : List Route) → Climbs x y rs → (a b : Route) → IsIn rs a → IsIn rs b → Includes x a.copy b.copy ⊎ Includes x b.copy a.copy
two x y [] h a b i j = absurd i
two x y (s ∷ rs) h a b (inl e) (inl d) = inl (subst (λ (t : Route). Includes x t.copy b.copy) e (subst (λ (t : Route). Includes x s.copy t.copy) d (record { each = λ f k g. g })))
two x y (s ∷ rs) h a b (inl e) (inr j) = inl (subst (λ (t : Route). Includes x t.copy b.copy) e (includes_of x s.copy b.copy (above x (apply s.copy x) rs h.1 b j)))
two x y (s ∷ rs) h a b (inr i) (inl d) = inr (subst (λ (t : Route). Includes x t.copy a.copy) d (includes_of x s.copy a.copy (above x (apply s.copy x) rs h.1 a i)))
two x y (s ∷ rs) h a b (inr i) (inr j) = two x (apply s.copy x) rs h.1 a b i j

pub chain_of : (x y : Packet) (rs : List Route) → Climbs x y rs → IsChain x rs
chain_of x y rs h = record { ordered = two x y rs h }

-- a set that includes another and has no more fields is the same
bit_up : (a b : Bool) → (a ≡ true → b ≡ true) → bit a ≤ bit b
bit_up true true h = omega arith
bit_up true false h = absurd (let e : false ≡ true = h refl in cc)
bit_up false true h = omega arith
bit_up false false h = omega arith

bit_true : (a : Bool) → a ≡ true → bit a ≡ 1
bit_true a e = ap bit e

true_bit : (a : Bool) → 1 ≤ bit a → a ≡ true
true_bit true h = refl
true_bit false h = absurd (omega arith)

bits_up : (p q : Field → Bool) (fs : List Field) → ((f : Field) → IsIn fs f → q f ≡ true → p f ≡ true) → count_of q fs ≤ count_of p fs
bits_up p q [] h = omega arith
bits_up p q (f ∷ fs) h = omega (arith, bits_up p q fs (λ g k. h g (inr k)), bit_up (q f) (p f) (h f (inl refl)))

bits_back : (p q : Field → Bool) (fs : List Field) → ((f : Field) → IsIn fs f → q f ≡ true → p f ≡ true) → count_of p fs ≤ count_of q fs → (f : Field) → IsIn fs f → p f ≡ true → q f ≡ true
bits_back p q [] h n f k e = absurd k
bits_back p q (g ∷ fs) h n f (inl d) e =
    let t : p g ≡ true = subst (λ (k : Field). p k ≡ true) (sym d) e in
    subst (λ (k : Field). q k ≡ true) d (true_bit (q g) (omega (arith, bits_up p q fs (λ k i. h k (inr i)), bit_true (p g) t, n)))
bits_back p q (g ∷ fs) h n f (inr k) e = bits_back p q fs (λ t i. h t (inr i)) (omega (arith, bit_up (q g) (p g) (h g (inl refl)), n)) f k e

-- one of the two sets includes the other, so the one of more fields does
none_passes : (p : Field → Bool) (fs : List Field) → first_of_fields p fs ≡ None → (f : Field) → IsIn fs f → p f ≡ false
none_passes p [] h f k = absurd k
none_passes p (g ∷ fs) h f k = split (p g) refl (λ r. none_passes p fs r f) k
  where
    split : (b : Bool) → p g ≡ b → (first_of_fields p fs ≡ None → IsIn fs f → p f ≡ false) → IsIn (g ∷ fs) f → p f ≡ false
    split true e r k = let n : Some g ≡ None = sym (ap (λ b. cond b (Some g) (first_of_fields p fs)) e) ∙ h in absurd (cc)
    split false e r (inl d) = subst (λ (t : Field). p t ≡ false) d e
    split false e r (inr i) = r (sym (ap (λ b. cond b (Some g) (first_of_fields p fs)) e) ∙ h) i

not_beyond : (a b : Bool) → a && not b ≡ false → a ≡ true → b ≡ true
not_beyond a true h e = refl
not_beyond true false h e = absurd (cc)
not_beyond false false h e = e

includes_none : (x : Packet) (a b : List Lit) → first_beyond x a b ≡ None → Includes x a b
includes_none x a b h = record { each = λ f k e. not_beyond (changes x a f) (changes x b f) (none_passes (goes_beyond x a b) settable h f k) e }

includes_more : (x : Packet) (a b : List Lit) → change_count x a ≤ change_count x b → (first_beyond x a b ≡ None) ⊎ (first_beyond x b a ≡ None) → Includes x a b
includes_more x a b n (inl h) = includes_none x a b h
includes_more x a b n (inr h) = record { each = bits_back (changes x a) (changes x b) settable (includes_none x b a h).each n }

-- no pair is apart
neither : (o p : Option ActionsFault) → or_else o p ≡ None → (o ≡ None) × (p ≡ None)
neither None p h = (refl, h)
neither (Some u) p h = absurd (cc)

one_none : (a b : Route) (f g : Option Field) → told_apart a b f g ≡ None → (f ≡ None) ⊎ (g ≡ None)
one_none a b None g h = inl refl
one_none a b (Some f) None h = inr refl
one_none a b (Some f) (Some g) h = absurd (cc)

-- each route counts its fields, and the counts rise
abbrev pub Rises : Packet → Route → List Route → Type 0
Rises x a [] = Unit {0}
Rises x a (b ∷ rs) = (change_count x a.copy ≤ change_count x b.copy) × Rises x b rs

climb : (x : Packet) (a : Route) (rs : List Route) → Rises x a rs → first_apart x (a ∷ rs) ≡ None → Climbs x (apply a.copy x) rs
climb x a [] r h = tt
climb x a (b ∷ rs) r h =
    let n = neither (first_from x a (b ∷ rs)) (first_apart x (b ∷ rs)) h in
    let m = neither (apart x a b) (first_from x a rs) n.0 in
    let i = includes_more x a.copy b.copy r.0 (one_none a b (first_beyond x a.copy b.copy) (first_beyond x b.copy a.copy) m.0) in
    (of_keeps (apply a.copy x) (apply b.copy x) (keeps_included x a.copy b.copy i), climb x b rs r.1 n.1)

abbrev pub AllRise : Packet → List Route → Type 0
AllRise x [] = Unit {0}
AllRise x (a ∷ rs) = Rises x a rs

-- where none is apart from a later one the copies climb
pub climbs_of : (x : Packet) (rs : List Route) → AllRise x rs → first_apart x rs ≡ None → Climbs x x rs
climbs_of x [] r h = tt
climbs_of x (a ∷ rs) r h = (of_keeps x (apply a.copy x) (record { each = λ f k n. fixed_apply a.copy x f n }), climb x a rs r h)
