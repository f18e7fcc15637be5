-- Stamps that are live, and those that are not.
use Rattle.std.proofs.Common.{◌≡◌, ℕ, zero, suc, ◌+◌, ◌-◌, ◌<◌, ◌≤◌, inl, inr, Bool, true, false, List, [], ◌∷◌, set, Some, refl, ap, subst, arith}
use Rattle.std.specs.Prelude.{slice_get}
use Rattle.std.proofs.lemmas.Bool.{cases_lt}
use Rattle.std.proofs.lemmas.Bool.Decides.{nat_tests}
use Rattle.stamp_planner.specs.Stamps.{Planning, IsPlanning, IsLive, AllLive, rotated}

-- releasing what is not live changes nothing
pub released-idle : (xs : List Bool) (i : ℕ) → ¬ (slice_get xs i ≡ Some true) → set xs i false ≡ xs
released-idle [] i h = refl
released-idle (true ∷ xs) zero h = absurd (h refl)
released-idle (false ∷ xs) zero h = refl
released-idle (x ∷ xs) (suc i) h = ap (λ ys. x ∷ ys) (released-idle xs i h)

-- how far a stamp is from the next one, going round
turn-of : (p : Planning) → IsPlanning p → (stamp : ℕ) → p.low ≤ stamp → stamp ≤ p.high → (k : ℕ) × (k < p.high + 1 - p.low) × (rotated p k ≡ stamp)
turn-of p ok stamp low high =
    elim (cases_lt stamp p.next) [
      | inl h ↦ (stamp + (p.high + 1 - p.low) - p.next, omega (arith, ok.from, ok.to, ok.two), grind (arith, nat_tests, ok.from, ok.to, ok.two))
      | inr h ↦ (stamp - p.next, omega (arith, ok.from, ok.to, ok.two), grind (arith, nat_tests, ok.from, ok.to, ok.two))
    ]

-- once all of them were live, all stamps are
pub all-live : (p : Planning) → IsPlanning p → ((k : ℕ) → k < p.high + 1 - p.low → IsLive p (rotated p k)) → AllLive p
all-live p ok h stamp low high =
    let t = turn-of p ok stamp low high in
    subst (IsLive p) t.2 (h t.0 t.1)
