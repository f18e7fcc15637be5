-- Diagrams that are narrowed to what the iterations from a cell can meet.
use Rattle.std.specs.Prelude.{ℕ, List}
use Rattle.nk_values.specs.declared.packet.Packet.{Packet}
use Rattle.nk_values.specs.declared.lit.Lit.{Lit}
use Rattle.nk_values.specs.Members.{IsIn}
use Rattle.fdd_nodes.specs.Cells.{Agrees}
use Rattle.fdd_nodes.specs.declared.cell.Knowledge.{Knowledge}
use Rattle.fdd_nodes.specs.Known.{Knows}
use Rattle.fdd_nodes.specs.Trees.{Tree, answers, SameAnswers}
use Rattle.fdd_star.specs.Cells.{Among}
use Rattle.fdd_star.specs.Reaches.{IsNamedBy}
use Rattle.fdd_star.specs.Stars.{Iterates}
use Rattle.fdd_store.specs.Stores.{Kept, Has, tree_at}

-- r makes the iterations of p from each packet of the cell c, and names only what p names
pub record IsNarrowed (p : Tree) (c : Packet) (r : Tree) : Type 0 where
  pub has : (n : ℕ) (pk out : Packet) → Agrees c pk → Iterates p n pk out → Iterates r n pk out
  pub only : (n : ℕ) (pk out : Packet) → Agrees c pk → Iterates r n pk out → Iterates p n pk out
  pub names : IsNamedBy p r

-- on the packets of some cells r answers as t, and it names only what t names
pub record IsOn (cs : List Packet) (t r : Tree) : Type 0 where
  pub same : (pk : Packet) → Among cs pk → SameAnswers (answers r pk) (answers t pk)
  pub names : IsNamedBy t r

-- of the cells cs those that do not know this of the literal are among ds
pub record AreBut (cs : List Packet) (l : Lit) (known : Knowledge) (ds : List Packet) : Type 0 where
  pub among : (c : Packet) → IsIn cs c → ¬ Knows c l known → IsIn ds c

-- the place is one of the store's, and its diagram has the property
pub record IsDiagramAt (k : Kept) (P : Tree → Type 0) (a : ℕ) : Type 0 where
  pub has : Has k a
  pub is : P (tree_at k a)
