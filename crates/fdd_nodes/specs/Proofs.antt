-- Facts of diagrams have one proof.
use Rattle.std.specs.Prelude.{ℕ}
use Rattle.std.specs.Coded.{le_prop, Unit-prop}
use Rattle.fdd_nodes.specs.Trees.{Tree, Leaf, Node, IsOrderedFrom}

pub IsOrderedFrom-prop : (t : Tree) (k : ℕ) → IsProp (IsOrderedFrom k t)
IsOrderedFrom-prop (Leaf cs) k = Unit-prop
IsOrderedFrom-prop (Node l t e) k =
    λ x y. λ i. (le_prop x.0 y.0 i, IsOrderedFrom-prop t _ x.1 y.1 i, IsOrderedFrom-prop e _ x.2 y.2 i)
