-- Split diagrams.
use Rattle.std.specs.Prelude.{◌⊎◌}
use Rattle.std.specs.List.Sorted.{IsPermutation}
use Rattle.nk_values.specs.declared.packet.Packet.{Packet}
use Rattle.nk_values.specs.declared.lit.Lit.{Lit}
use Rattle.nk_values.specs.Held.{Holds}
use Rattle.nk_values.specs.Members.{EachOnce}
use Rattle.nk_values.specs.Packets.{IsInRange}
use Rattle.fdd_nodes.specs.Trees.{Tree, Leaf, Node, answers, SameAnswers, IsOrdered, Tests, Assigns}
use Rattle.fdd_nodes.specs.Cells.{Respects, whole_cell}
use Rattle.fdd_nodes.specs.Paths.{Way, IsOnPath, no_tests, with_true, with_false}

-- on each packet in range of the path that passes the test the branches give the same packets as often
pub record IsIdleOn (w : Way) (l : Lit) (t e : Tree) : Type 0 where
  pub same : (p : Packet) → IsInRange p → IsOnPath w p → Holds p l → IsPermutation (answers t p) (answers e p)

-- no test is idle
abbrev pub HasNoIdle : Way → Tree → Type 0
HasNoIdle w (Leaf cs) = Unit {0}
HasNoIdle w (Node l t e) = (¬ IsIdleOn w l t e) × HasNoIdle (with_true w l) t × HasNoIdle (with_false w l) e

-- The tests are ordered, no leaf assigns what its path fixes, no packet in range is given twice, and no test is idle.
pub record IsSplit (t : Tree) : Type 0 where
  pub ordered : IsOrdered t
  pub respects : Respects whole_cell t
  pub once : (p : Packet) → IsInRange p → EachOnce (answers t p)
  pub needed : HasNoIdle no_tests t

-- r is split, answers as a, tests only what a tests or assigns, and assigns only what it assigns
pub record SplitOf (a r : Tree) : Type 0 where
  pub same : (p : Packet) → SameAnswers (answers r p) (answers a p)
  pub split : IsSplit r
  pub tests : (m : Lit) → Tests r m → Tests a m ⊎ Assigns a m
  pub assigns : (m : Lit) → Assigns r m → Assigns a m
