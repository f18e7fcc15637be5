-- The ends that a drive begins with.
use Rattle.std.specs.Prelude.{◌≡◌, ℕ, Bool, true, false, List, [], ◌∷◌, Option, Some, None, slice_get}

-- nothing was received, if that is known
abbrev pub is_fresh : Option (List ℕ) → Bool
is_fresh None = true
is_fresh (Some []) = true
is_fresh (Some (x ∷ xs)) = false

-- the end of switch s, over which nothing was received
pub record IsEndOf {E : Type 0} (named : E → ℕ) (received : E → Option (List ℕ)) (s : ℕ) (end : E) : Type 0 where
  pub name : named end ≡ s
  pub fresh : is_fresh (received end) ≡ true

-- one end a switch, in order
abbrev pub AreEnds : {E : Type 0} → (E → ℕ) → (E → Option (List ℕ)) → List E → Type 0
AreEnds {E} named received ends = (s : ℕ) (end : E) → slice_get ends s ≡ Some end → IsEndOf named received s end
