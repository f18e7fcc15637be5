-- The header fields that copies set and their path does not fix.
use Rattle.std.specs.Prelude.{◌≡◌, ℕ, ◌+◌, Bool, true, false, ◌&&◌, not, List, [], ◌∷◌, Option, Some, None}
use Rattle.std.specs.Prelude.{if◌then◌else◌}
use Rattle.nk_values.specs.declared.field.Field.{Field}
use Rattle.nk_values.specs.declared.packet.Packet.{Packet}
use Rattle.nk_values.specs.declared.lit.Lit.{Lit}
use Rattle.nk_values.specs.Members.{IsIn}
use Rattle.fdd_nodes.specs.Cells.{is_unset}
use Rattle.fdd_nodes.specs.Trees.{apply}
use Rattle.leaf_actions.specs.Settable.{settable}

-- the cell x leaves the field open, and the copy sets it
abbrev pub changes : Packet → List Lit → Field → Bool
changes x c f = is_unset x f && not (is_unset (apply c x) f)

-- the cell x leaves the field open, and the cell y fixes it
abbrev pub fixes : Packet → Packet → Field → Bool
fixes x y f = is_unset x f && not (is_unset y f)

abbrev pub bit : Bool → ℕ
bit true = 1
bit false = 0

-- how many of the fields pass a test
abbrev pub count_of : (Field → Bool) → List Field → ℕ
count_of p [] = 0
count_of p (f ∷ fs) = bit (p f) + count_of p fs

-- how many header fields a copy changes
abbrev pub change_count : Packet → List Lit → ℕ
change_count x c = count_of (changes x c) settable

-- each field that the first copy changes, the second changes too
pub record Includes (x : Packet) (a b : List Lit) : Type 0 where
  pub each : (f : Field) → IsIn settable f → changes x a f ≡ true → changes x b f ≡ true

-- the first of the fields that passes a test
abbrev pub first_of_fields : (Field → Bool) → List Field → Option Field
first_of_fields p [] = None
first_of_fields p (f ∷ fs) = if p f then Some f else first_of_fields p fs

-- the copy a changes the field, and the copy b does not
abbrev pub goes_beyond : Packet → List Lit → List Lit → Field → Bool
goes_beyond x a b f = changes x a f && not (changes x b f)

-- the first such header field
abbrev pub first_beyond : Packet → List Lit → List Lit → Option Field
first_beyond x a b = first_of_fields (goes_beyond x a b) settable
