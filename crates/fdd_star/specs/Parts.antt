-- The parts of a cell.
use Rattle.std.specs.Prelude.{◌≡◌, List, ◌++◌}
use Rattle.nk_values.specs.declared.packet.Packet.{Packet}
use Rattle.nk_values.specs.declared.lit.Lit.{Lit}
use Rattle.nk_values.specs.Lits.{lit_field}
use Rattle.nk_values.specs.Members.{IsIn}
use Rattle.fdd_nodes.specs.Cells.{IsUnset}
use Rattle.fdd_nodes.specs.Trees.{Tree, Tests}
use Rattle.fdd_star.specs.declared.parts.Parts.{Parts}
use Rattle.fdd_star.specs.Narrow.{IsDiagramAt, IsNarrowed}
use Rattle.fdd_star.specs.Reaches.{StarBut}
use Rattle.fdd_star.specs.Shared.{AreShared}
use Rattle.fdd_store.specs.Stores.{Kept, Gives, tree_at}

-- The star of p, after the copy s, in the cell c is made but for what is left: the tests that are missed in new, and
-- were not in old.
pub record HasParts (k : Kept) (s : List Lit) (p : Tree) (c : Packet) (old new : List Lit) (a : Parts) : Type 0 where
  pub all : Gives k a.all (StarBut s p c new)
  pub missed : new ≡ old ++ a.left.items
  pub asked : (m : Lit) → IsIn a.left.items m → IsUnset c (lit_field m) × Tests p m
  pub body : IsDiagramAt k (IsNarrowed p c) a.body
  pub shared : AreShared k s (tree_at k a.body) c new a.shared
