-- Laws of divided diagrams.
use Rattle.std.specs.Prelude.{◌⊎◌, []}
use Rattle.nk_values.specs.declared.packet.Packet.{Packet}
use Rattle.nk_values.specs.declared.lit.Lit.{Lit}
use Rattle.nk_values.specs.Members.{EachOnce}
use Rattle.fdd_nodes.specs.Trees.{Tree, answers, SameAnswers, IsOrdered, Tests, Assigns}
use Rattle.fdd_nodes.specs.Cells.{Respects, whole_cell}
use Rattle.fdd_store.specs.Canonical.{IsCanonical}
use Rattle.fdd_split.specs.Divides.{Divides}
use Rattle.fdd_nodes.specs.Names.{IsFew}
use Rattle.fdd_split.specs.Split.{SplitOf}

-- r answers as a, and names only what a names
pub record IsLike (a r : Tree) : Type 0 where
  pub same : (p : Packet) → SameAnswers (answers r p) (answers a p)
  pub tests : (m : Lit) → Tests r m → Tests a m ⊎ Assigns a m
  pub assigns : (m : Lit) → Assigns r m → Assigns a m

abbrev pub DividedAnswerAlike : Type 0
DividedAnswerAlike = (a r : Tree) → Divides [] a r → IsLike a r

pub record IsOrderly (r : Tree) : Type 0 where
  pub ordered : IsOrdered r
  pub respects : Respects whole_cell r
  pub once : (p : Packet) → EachOnce (answers r p)

abbrev pub DividedAreOrdered : Type 0
DividedAreOrdered = (a r : Tree) → IsCanonical a → Divides [] a r → IsOrderly r

-- a made diagram that leaves values unnamed is split where it is divided
abbrev pub DividedAreSplit : Type 0
DividedAreSplit = (a r : Tree) → IsFew a → IsCanonical a → Divides [] a r → SplitOf a r
