-- The events that can happen.
use Rattle.std.proofs.Common.{◌≡◌, Bool, true, false, ℕ, zero, suc, ◌+◌, ◌<◌, inl, inr, List, [], ◌∷◌, ◌++◌, length, refl, sym, ◌∙◌, ap, subst, Option, None, Some, slice_get, if◌then◌else◌, arith}
use Rattle.std.specs.Prelude.{IfSome}
use Rattle.std.proofs.lemmas.Bool.Decides.{Decides-eqb}
use Rattle.nk_values.specs.declared.rows.Rows.{Rows}
use Rattle.update_coordinator.specs.declared.cause.Cause.{Cause}
use Rattle.update_coordinator.specs.declared.refusal.Refusal.TheVariants.{Halted, NotDraining}
use Rattle.update_coordinator.specs.Calls.{drain_refusal, drains, is_stamp, leaving, unless_halted}
use Rattle.update_coordinator.specs.Controls.{Control}
use Rattle.update_laws.proofs.Wiring.{some-is}
use Rattle.world_core.specs.declared.event.Event.{Event}
use Rattle.world_core.specs.Settling.{NoneIs}
use Rattle.world_core.specs.Steps.{IsEnabled}
use Rattle.world_core.specs.Worlds.{WorldValue}
use Rattle.workload_gen.specs.Draws.{AreEnabled, due, due_of}

-- ---- the report that is waited for

some-none : {X : Type 0} {P : Type 0} (a : X) → Some a ≡ None → P
some-none a q = cc

stamp-is : (b : Bool) → (if b then None else Some NotDraining) ≡ None → b ≡ true
stamp-is true e = refl
stamp-is false e = some-none NotDraining e

pub due-at : (halt : Option Cause) (known : Option Rows) (stamp : ℕ) → unless_halted halt (drains known stamp) ≡ None → due_of halt known ≡ Some stamp
due-at (Some cause) known stamp e = some-none Halted e
due-at None None stamp e = some-none NotDraining e
due-at None (Some v) stamp e = ap (λ (n : ℕ). Some n) ((Decides-eqb v.stamp stamp).0 (stamp-is (is_stamp (Some v) stamp) e))

told-by : (halt : Option Cause) (known : Option Rows) (told : Option ℕ) → IfSome told (λ (stamp : ℕ). unless_halted halt (drains known stamp) ≡ None) →
    ((stamp : ℕ) → unless_halted halt (drains known stamp) ≡ None → told ≡ Some stamp) → told ≡ due_of halt known
told-by halt known (Some stamp) some only = sym (due-at halt known stamp some)
told-by (Some cause) known None some only = refl
told-by None None None some only = refl
told-by None (Some v) None some only = only v.stamp (ap (λ (b : Bool). if b then None else Some NotDraining) ((Decides-eqb v.stamp v.stamp).1 refl))

pub told-due : (c : Control) (told : Option ℕ) → IfSome told (λ (stamp : ℕ). drain_refusal c stamp ≡ None) → ((stamp : ℕ) → drain_refusal c stamp ≡ None → told ≡ Some stamp) → told ≡ due c
told-due c told some only = told-by c.halt (leaving c.overlap c.swept c.phase c.versions) told some only

-- ---- lists

pub get-left : {X : Type 0} (xs ys : List X) (i : ℕ) → i < length xs → slice_get (xs ++ ys) i ≡ slice_get xs i
get-left [] ys i l = absurd (omega (arith, l))
get-left (x ∷ xs) ys zero l = refl
get-left (x ∷ xs) ys (suc i) l = get-left xs ys i (omega (arith, l))

pub get-right : {X : Type 0} (xs ys : List X) (i j : ℕ) → i ≡ length xs + j → slice_get (xs ++ ys) i ≡ slice_get ys j
get-right [] ys i j e = ap (λ (n : ℕ). slice_get ys n) (omega (arith, e))
get-right (x ∷ xs) ys zero j e = absurd (omega (arith, e))
get-right (x ∷ xs) ys (suc i) j e = get-right xs ys i j (omega (arith, e))

pub append-none : {X : Type 0} (xs : List X) → xs ++ [] ≡ xs
append-none [] = refl
append-none (x ∷ xs) = ap (λ ys. x ∷ ys) (append-none xs)

-- ---- the events that can happen

pub enabled-both : (w : WorldValue) (cs ds es fs : List Event) → AreEnabled w cs es → AreEnabled w ds fs → AreEnabled w (cs ++ ds) (es ++ fs)
enabled-both w [] ds es fs a b = subst (λ (xs : List Event). AreEnabled w ds (xs ++ fs)) (sym a) b
enabled-both w (c ∷ cs) ds es fs (inl a) b = inl (a.0, a.1 ++ fs, ap (λ (xs : List Event). xs ++ fs) a.2, enabled-both w cs ds a.1 fs a.3 b)
enabled-both w (c ∷ cs) ds es fs (inr a) b = inr (a.0, enabled-both w cs ds es fs a.1 b)

-- they are the same each time
pub enabled-same : (w : WorldValue) (cs es fs : List Event) → AreEnabled w cs es → AreEnabled w cs fs → es ≡ fs
enabled-same w [] es fs a b = a ∙ sym b
enabled-same w (c ∷ cs) es fs (inl a) (inl b) = a.2 ∙ ap (λ (xs : List Event). c ∷ xs) (enabled-same w cs a.1 b.1 a.3 b.3) ∙ sym b.2
enabled-same w (c ∷ cs) es fs (inl a) (inr b) = absurd (b.0 a.0)
enabled-same w (c ∷ cs) es fs (inr a) (inl b) = absurd (a.0 b.0)
enabled-same w (c ∷ cs) es fs (inr a) (inr b) = enabled-same w cs es fs a.1 b.1

-- those of two lists are those of the first, and then those of the second
pub record AreBoth (w : WorldValue) (cs ds es : List Event) : Type 0 where
  pub left : List Event
  pub right : List Event
  pub ones : AreEnabled w cs left
  pub others : AreEnabled w ds right
  pub is : es ≡ left ++ right

pub enabled-parts : (w : WorldValue) (cs ds es : List Event) → AreEnabled w (cs ++ ds) es → AreBoth w cs ds es
enabled-parts w [] ds es a = record { left = []; right = es; ones = refl; others = a; is = refl }
enabled-parts w (c ∷ cs) ds es (inl a) =
    let b = enabled-parts w cs ds a.1 a.3 in
    record { left = c ∷ b.left; right = b.right; ones = inl (a.0, b.left, refl, b.ones); others = b.others; is = a.2 ∙ ap (λ (xs : List Event). c ∷ xs) b.is }
enabled-parts w (c ∷ cs) ds es (inr a) =
    let b = enabled-parts w cs ds es a.1 in
    record { left = b.left; right = b.right; ones = inr (a.0, b.ones); others = b.others; is = b.is }

by_place : (w : WorldValue) (c : Event) (rest : List Event) (i : ℕ) (e : Event) → IsEnabled w c → ((j : ℕ) → slice_get rest j ≡ Some e → IsEnabled w e) → slice_get (c ∷ rest) i ≡ Some e → IsEnabled w e
by_place w c rest zero e h f p = subst (λ (x : Event). IsEnabled w x) (some-is c e p) h
by_place w c rest (suc i) e h f p = f i p

-- each of them can
pub enabled-can : (w : WorldValue) (cs es : List Event) (i : ℕ) (e : Event) → AreEnabled w cs es → slice_get es i ≡ Some e → IsEnabled w e
enabled-can w [] es i e a q = absurd (let none : None ≡ Some e = ap (λ (xs : List Event). slice_get xs i) (sym a) ∙ q in cc)
enabled-can w (c ∷ cs) es i e (inl a) q = by_place w c a.1 i e a.0 (λ j p. enabled-can w cs a.1 j e a.3 p) (ap (λ (xs : List Event). slice_get xs i) (sym a.2) ∙ q)
enabled-can w (c ∷ cs) es i e (inr a) q = enabled-can w cs es i e a.1 q

pub none-can : (w : WorldValue) (cs es : List Event) → AreEnabled w cs es → length es ≡ 0 → NoneIs w cs
none-can w [] es a n = tt
none-can w (c ∷ cs) es (inl a) n = absurd (omega (arith, n, ap (λ (xs : List Event). length xs) a.2))
none-can w (c ∷ cs) es (inr a) n = (a.0, none-can w cs es a.1 n)
