-- Numbers, and marks that tell which are there.
use Rattle.std.specs.Prelude.{◌≡◌, ◌↔◌, ℕ, Bool, true, IsTrue, IsFalse, List, [], ◌∷◌, ◌++◌, Some, slice_get}
use Rattle.nk_values.specs.Members.{IsIn}

-- the number has a mark
abbrev pub IsMarked : List Bool → ℕ → Type 0
IsMarked marks n = slice_get marks n ≡ Some true

-- exactly the numbers have marks
abbrev pub AreMarks : List ℕ → List Bool → Type 0
AreMarks numbers marks = (n : ℕ) → IsMarked marks n ↔ IsIn numbers n

-- the same numbers have marks
abbrev pub KeepsMarks : List Bool → List Bool → Type 0
KeepsMarks old new = (n : ℕ) → IsMarked new n ↔ IsMarked old n

-- new has the number n last, if old has it not
pub record PutsNumber (n : ℕ) (is_new : Bool) (old new : List ℕ) : Type 0 where
  pub put : IsTrue is_new → (¬ IsIn old n) × (new ≡ old ++ n ∷ [])
  pub kept : IsFalse is_new → IsIn old n × (new ≡ old)
