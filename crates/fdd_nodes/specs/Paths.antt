-- Paths of diagrams as clauses see them.
use Rattle.std.specs.Prelude.{◌≤◌, List, [], ◌∷◌, ◌++◌, length}
use Rattle.nk_values.specs.declared.packet.Packet.{Packet}
use Rattle.nk_values.specs.declared.lit.Lit.{Lit}
use Rattle.nk_values.specs.Held.{Holds}
use Rattle.nk_values.specs.Members.{IsIn}
use Rattle.fdd_nodes.specs.Cells.{whole_cell}
use Rattle.fdd_nodes.specs.Names.{distinct}
use Rattle.fdd_nodes.specs.Trees.{apply}

-- the tests on a path that hold, and those that don't, each in the order of the path
pub record Way : Type 0 where
  pub trues : List Lit
  pub falses : List Lit

-- the path on which nothing is tested yet
abbrev pub no_tests : Way
no_tests = record { trues = []; falses = [] }

-- the path with one test more
abbrev pub with_true : Way → Lit → Way
with_true w l = record { trues = w.trues ++ l ∷ []; falses = w.falses }

abbrev pub with_false : Way → Lit → Way
with_false w l = record { trues = w.trues; falses = w.falses ++ l ∷ [] }

-- the cell that the true tests fix
abbrev pub cell_on : Way → Packet
cell_on w = apply w.trues whole_cell

-- the packet has each true test of the path and none of the false ones
pub record IsOnPath (w : Way) (p : Packet) : Type 0 where
  pub holds : (l : Lit) → IsIn w.trues l → Holds p l
  pub fails : (l : Lit) → IsIn w.falses l → ¬ Holds p l

-- the tests of a path
abbrev pub tests_on : Way → List Lit
tests_on w = w.trues ++ w.falses

-- a path names at most 4,000 values
pub record IsFewOn (w : Way) : Type 0 where
  pub bound : length (distinct (tests_on w)) ≤ 4000

-- the packet has each of the tests, and none of them, as they are asked
abbrev pub HasAll : List Lit → Packet → Type 0
HasAll [] p = Unit {0}
HasAll (l ∷ ls) p = Holds p l × HasAll ls p

abbrev pub HasNone : List Lit → Packet → Type 0
HasNone [] p = Unit {0}
HasNone (l ∷ ls) p = (¬ Holds p l) × HasNone ls p
