-- The first tests of diagrams.
use Rattle.std.specs.Prelude.{◌≡◌, ℕ, ◌≤◌, ◌<◌, ◌⊎◌, if◌then◌else◌, ◌==◌}
use Rattle.nk_values.specs.declared.field.Field.{Field}
use Rattle.nk_values.specs.declared.lit.Lit.{Lit}
use Rattle.nk_values.specs.Lits.{lit_field, lit_value}
use Rattle.nk_values.specs.Ranges.{place}
use Rattle.nk_values.specs.Ranks.{rank}
use Rattle.fdd_nodes.specs.Trees.{Tree, Leaf, Node}

abbrev pub IsLeaf : Tree → Type 0
IsLeaf (Leaf cs) = Unit {0}
IsLeaf (Node l t e) = ⊥

-- the first test is l
abbrev pub HasRoot : Lit → Tree → Type 0
HasRoot l (Leaf cs) = ⊥
HasRoot l (Node m t e) = m ≡ l

-- the first test does not come before l
abbrev pub IsFrom : Lit → Tree → Type 0
IsFrom l (Leaf cs) = Unit {0}
IsFrom l (Node m t e) = rank l ≤ rank m

-- the first test comes after l
abbrev pub IsAfter : Lit → Tree → Type 0
IsAfter l (Leaf cs) = Unit {0}
IsAfter l (Node m t e) = rank l < rank m

-- l is the first of the tests at two roots
pub record IsFirst (l : Lit) (a b : Tree) : Type 0 where
  pub from_a : IsFrom l a
  pub from_b : IsFrom l b
  pub one : HasRoot l a ⊎ HasRoot l b

-- of a diagram whose first test does not come before l: the part where l holds, and where it does not
abbrev pub then_part : Lit → Tree → Tree
then_part l (Leaf cs) = Leaf cs
then_part l (Node m t e) = if rank m == rank l then t else Node m t e

abbrev pub else_part : Lit → Tree → Tree
else_part l (Leaf cs) = Leaf cs
else_part l (Node m t e) = if rank m == rank l then e else Node m t e

-- where the tests of a field lead that stand first, if it holds n
abbrev pub part_with : Field → ℕ → Tree → Tree
part_with f n (Leaf cs) = Leaf cs
part_with f n (Node l t e) = if place (lit_field l) ==
    place f then (if lit_value l == n then t else part_with f n e) else Node l t e
