-- Normal diagrams.
use Rattle.std.specs.Prelude.{◌+◌, ◌*◌, ◌≤◌, Bool, IsTrue}
use Rattle.nk_values.specs.declared.packet.Packet.{Packet}
use Rattle.nk_values.specs.declared.lit.Lit.{Lit}
use Rattle.nk_values.specs.Held.{Holds}
use Rattle.nk_values.specs.Lits.{lit_field}
use Rattle.nk_values.specs.Packets.{IsInRange}
use Rattle.nk_values.specs.Ranges.{place}
use Rattle.nk_values.specs.Ranks.{step, rank}
use Rattle.fdd_nodes.specs.Trees.{Tree, Leaf, Node, answers, SameAnswers, IsOrdered}
use Rattle.fdd_nodes.specs.Cells.{IsFresh, Respects, whole_cell}

-- on each packet in range that passes the test the branches answer alike
pub record IsRedundant (l : Lit) (t e : Tree) : Type 0 where
  pub same : (p : Packet) → IsInRange p → Holds p l → SameAnswers (answers t p) (answers e p)

-- no test is redundant
abbrev pub IsTight : Tree → Type 0
IsTight (Leaf cs) = Unit {0}
IsTight (Node l t e) = (¬ IsRedundant l t e) × IsTight t × IsTight e

-- the tests are ordered, no leaf assigns what its path fixes, and no test is redundant
pub record IsNormal (t : Tree) : Type 0 where
  pub ordered : IsOrdered t
  pub respects : Respects whole_cell t
  pub tight : IsTight t

-- the first test is of a later field
abbrev pub IsPast : Lit → Tree → Type 0
IsPast l (Leaf cs) = Unit {0}
IsPast l (Node m t e) = step * (place (lit_field l) + 1) ≤ rank m

-- b tells whether no test is redundant, of an ordered diagram that leaves values unnamed
pub record TellsTight (t : Tree) (b : Bool) : Type 0 where
  pub yes : IsTrue b → IsOrdered t → (g : Packet) → IsInRange g → IsFresh g t → IsTight t
  pub no : IsTight t → IsTrue b
