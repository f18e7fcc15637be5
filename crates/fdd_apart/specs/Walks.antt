-- Steps of a walk through two diagrams, and where it ends.
use Rattle.std.specs.Prelude.{◌≡◌, ℕ, ◌≤◌, ◌⊎◌}
use Rattle.nk_values.specs.declared.field.Field.{Field}
use Rattle.nk_values.specs.declared.packet.Packet.{Packet}
use Rattle.nk_values.specs.declared.lit.Lit.{Lit}
use Rattle.nk_values.specs.Held.{Holds}
use Rattle.nk_values.specs.Lits.{lit_field}
use Rattle.nk_values.specs.Packets.{get}
use Rattle.nk_values.specs.Ranks.{rank}
use Rattle.fdd_nodes.specs.Cells.{IsUnset, Agrees}
use Rattle.fdd_nodes.specs.Trees.{Tree, answers, SameAnswers, Tests, Assigns}

-- the diagram tests or assigns the literal
abbrev pub NamesLit : Tree → Lit → Type 0
NamesLit t m = Tests t m ⊎ Assigns t m

-- the cell leaves open what the diagram tests, and holds nothing that it assigns
pub record IsReady (c : Packet) (t : Tree) : Type 0 where
  pub untold : (m : Lit) → Tests t m → IsUnset c (lit_field m)
  pub clean : (m : Lit) → Assigns t m → ¬ Holds c m

-- what the cell q fixes at the field is a literal that one of the diagrams tests
pub record IsFixedBy (q : Packet) (x y : Tree) (f : Field) : Type 0 where
  pub lit : Lit
  pub tested : Tests x lit ⊎ Tests y lit
  pub field : lit_field lit ≡ f
  pub holds : Holds q lit

abbrev pub StartsAt : ℕ → Tree → Type 0
StartsAt k t = (m : Lit) → Tests t m → k ≤ rank m

-- Within the cell c, q is a cell in which the diagrams answer apart: each packet of q that holds nothing else which
-- they name.
pub record CellApart (c : Packet) (x y : Tree) (q : Packet) : Type 0 where
  pub keeps : (f : Field) → ¬ IsUnset c f → get q f ≡ get c f
  pub fixed : (f : Field) → ¬ IsUnset q f → (¬ IsUnset c f) ⊎ IsFixedBy q x y f
  pub beyond : (k : ℕ) → StartsAt k x → StartsAt k y → (m : Lit) → Holds q m → Holds c m ⊎ (k ≤ rank m)
  pub differs : (p : Packet) → Agrees q p → ((m : Lit) → NamesLit x m ⊎ NamesLit y m → Holds p m → Holds q m) →
      ¬ SameAnswers (answers x p) (answers y p)
