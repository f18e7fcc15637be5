-- Looking through places one after another.
use Rattle.std.proofs.Common.{◌≡◌, ℕ, ◌+◌, ◌<◌, ◌≤◌, inl, inr, List, length, Some, slice_get, subst, arith}
use Rattle.std.proofs.Math.Nat.{eq-or-lt_of_le}
use Rattle.std.proofs.lemmas.Option.{slice_get_within}
use Rattle.packet_tracer.specs.declared.flight.Flight.{Flight}

-- what holds at none of the places before, nor at this one, holds at none up to it
pub none-more : (P : ℕ → Type 0) (n : ℕ) → ((k : ℕ) → k < n → ¬ (P k)) → ¬ (P n) → (k : ℕ) → k < n + 1 → ¬ (P k)
none-more P n before here k l p = elim (eq-or-lt_of_le {n = k} {m = n} (omega (arith, l))) [
  | inl e ↦ here (subst P e p)
  | inr m ↦ before k m p
]

-- what needs a copy at its place, and holds at none of them, holds nowhere
pub none-there : (P : ℕ → Type 0) (flights : List Flight) (n : ℕ) → length flights ≤ n → ((k : ℕ) → P k → (f : Flight) × (slice_get flights k ≡ Some f)) → ((k : ℕ) → k < n → ¬ (P k)) → (k : ℕ) → ¬ (P k)
none-there P flights n l there none k p = let f = there k p in none k (let m : k < length flights = slice_get_within flights k f.0 f.1 in omega (arith, l, m)) p
