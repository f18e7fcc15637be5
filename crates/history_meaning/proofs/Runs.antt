-- Policies one after another, repeated, and with more iterations of their stars.
use Rattle.std.proofs.Common.{◌≡◌, ℕ, zero, suc, ◌+◌, ◌-◌, ◌≤◌, Bool, true, false, ◌⊎◌, inl, inr, List, [], ◌∷◌, refl, sym, subst, if◌then◌else◌, arith}
use Rattle.nk_values.specs.Members.{IsIn, Within}
use Rattle.nk_values.specs.Trails.{Trail}
use Rattle.nk_values.proofs.MemberLaws.{in-left, in-right, in-either, in-flat_map, from-flat_map, flat_map-within}
use Rattle.nk_syntax.specs.Terms.{Term, Terms, term}
use Rattle.history_meaning.specs.Meaning.{den, chain, times, up_to}
use Rattle.history_meaning.proofs.MoreTurns.{den-more}

pub only : {X : Type 0} (x y : X) → IsIn (x ∷ []) y → x ≡ y
only x y (inl e) = e
only x y (inr n) = absurd n

-- what a test lets through
pub from-filter : {X : Type 0} (b : Bool) (h y : X) → IsIn (if b then h ∷ [] else []) y → (b ≡ true) × (h ≡ y)
from-filter true h y m = (refl, only h y m)
from-filter false h y m = absurd m

pub in-filter : {X : Type 0} (b : Bool) (h : X) → b ≡ true → IsIn (if b then h ∷ [] else []) h
in-filter b h e = subst (λ c. IsIn (if c then h ∷ [] else []) h) (sym e) (inl refl)

-- more iterations give no fewer histories
more_by : (p : Term) (k n : ℕ) (h : Trail) → Within (den p n h) (den p (k + n) h)
more_by p zero n h = λ t i. subst (λ (m : ℕ). IsIn (den p m h) t) (let e : n ≡ 0 + n = omega arith in e) i
more_by p (suc k) n h = λ t i. subst (λ (m : ℕ). IsIn (den p m h) t) (let e : suc (k + n) ≡ suc k + n = omega arith in e) (den-more p (k + n) h t (more_by p k n h t i))

pub more_turns : (p : Term) (n m : ℕ) (h : Trail) → n ≤ m → Within (den p n h) (den p m h)
more_turns p n m h l = λ t i. subst (λ (j : ℕ). IsIn (den p j h) t) (let e : (m - n) + n ≡ m = omega (arith, l) in e) (more_by p (m - n) n h t i)

pub times_more : (p : Term) (n m : ℕ) → n ≤ m → (k : ℕ) (h : Trail) → Within (times k (den p n) h) (times k (den p m) h)
times_more p n m l zero h = λ t i. i
times_more p n m l (suc k) h = flat_map-within (den p n) (den p m) (times k (den p n) h) (times k (den p m) h) (times_more p n m l k h) (λ u. more_turns p n m u l)

-- repetitions from the front
pub times-to_front : (k : ℕ) (f : Trail → List Trail) (x y : Trail) → IsIn (times (suc k) f x) y → (z : Trail) × IsIn (f x) z × IsIn (times k f z) y
times-to_front zero f x y m = (y, elim (in-either (f x) [] y m) [ inl h ↦ h | inr h ↦ absurd h ], inl refl)
times-to_front (suc k) f x y m =
    let r = from-flat_map f (times (suc k) f x) y m in
    let s = times-to_front k f x r.0 r.1 in
    (s.0, s.1, in-flat_map f (times k f s.0) r.0 y s.2 r.2)

pub times-from_front : (k : ℕ) (f : Trail → List Trail) (x z y : Trail) → IsIn (f x) z → IsIn (times k f z) y → IsIn (times (suc k) f x) y
times-from_front zero f x z y h (inl e) = in-left (f x) [] y (subst (λ w. IsIn (f x) w) e h)
times-from_front zero f x z y h (inr b) = absurd b
times-from_front (suc k) f x z y h m =
    let r = from-flat_map f (times k f z) y m in
    in-flat_map f (times (suc k) f x) r.0 y (times-from_front k f x z r.0 h r.1) r.2

-- at most n repetitions are k of them, with k at most n
pub from-up_to : (n : ℕ) (step : Trail → List Trail) (h t : Trail) → IsIn (up_to n step h) t → (k : ℕ) × IsIn (times k step h) t
from-up_to zero step h t i = (zero, i)
from-up_to (suc n) step h t i = elim (in-either (up_to n step h) (times (suc n) step h) t i) [ inl w ↦ from-up_to n step h t w | inr w ↦ (suc n, w) ]

pub at_most : (k n : ℕ) → k ≤ suc n → (k ≤ n) ⊎ (suc n ≡ k)
at_most k n h = grind arith

pub in-up_to : (n k : ℕ) (step : Trail → List Trail) (h t : Trail) → k ≤ n → IsIn (times k step h) t → IsIn (up_to n step h) t
in-up_to zero k step h t l m = let e : k ≡ 0 = omega arith in subst (λ (j : ℕ). IsIn (times j step h) t) e m
in-up_to (suc n) k step h t l m =
    elim (at_most k n l) [
      | inl w ↦ in-left (up_to n step h) (times (suc n) step h) t (in-up_to n k step h t w m)
      | inr e ↦ in-right (up_to n step h) (times (suc n) step h) t (subst (λ (j : ℕ). IsIn (times j step h) t) (sym e) m)
    ]

-- the results of one policy after another
pub from-chain : (p : Term) (ps : Terms) (n : ℕ) (h y : Trail) → IsIn (chain (term p ps) n h) y → (x : Trail) × IsIn (den p n h) x × IsIn (chain ps n x) y
from-chain p ps n h y m = from-flat_map (chain ps n) (den p n h) y m

pub in-chain : (p : Term) (ps : Terms) (n : ℕ) (h x y : Trail) → IsIn (den p n h) x → IsIn (chain ps n x) y → IsIn (chain (term p ps) n h) y
in-chain p ps n h x y a b = in-flat_map (chain ps n) (den p n h) x y a b
