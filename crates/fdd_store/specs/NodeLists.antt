-- Nodes that were made of a store's diagrams.
use Rattle.std.specs.Prelude.{◌≡◌, ℕ, List, Option, Some, slice_get}
use Rattle.std.specs.declared.alloc.Global.{Global}
use Rattle.std.specs.declared.rc.Rc.{Rc}
use Rattle.fdd_nodes.specs.Trees.{tree}
use Rattle.fdd_nodes.specs.declared.node.Node as rust
use Rattle.fdd_store.specs.declared.nodes.Nodes.{Nodes}
use Rattle.fdd_store.specs.Stores.{Kept, Has, tree_at}

-- the node is the diagram of a place
abbrev pub IsNodeOf : Kept → ℕ → Rc rust.Node Global → Type 0
IsNodeOf k a r = Has k a × (tree r.value ≡ tree_at k a)

-- each of the nodes is the diagram of its place
abbrev pub AreNodesOf : Kept → List (Option (Rc rust.Node Global)) → Type 0
AreNodesOf k ns = (a : ℕ) (r : Rc rust.Node Global) → slice_get ns a ≡ Some (Some r) → IsNodeOf k a r

abbrev pub AreNodes : Kept → Nodes → Type 0
AreNodes k n = AreNodesOf k n.made.items
