-- How many values diagrams name.
use Rattle.std.specs.Prelude.{ℕ, ◌≤◌, ◌⊎◌, Bool, false, ◌||◌, List, [], ◌∷◌, ◌++◌, length, if◌then◌else◌}
use Rattle.nk_values.specs.declared.packet.Packet.{Packet}
use Rattle.nk_values.specs.declared.lit.Lit.{Lit}
use Rattle.nk_values.specs.Members.{IsIn, EachOnce}
use Rattle.nk_values.specs.Packets.{IsInRange}
use Rattle.nk_values.specs.Ranks.{lit_eq}
use Rattle.fdd_nodes.specs.Trees.{Tree, Leaf, Node}
use Rattle.fdd_nodes.specs.Cells.{IsFresh}

abbrev pub literals_of : List (List Lit) → List Lit
literals_of [] = []
literals_of (c ∷ cs) = c ++ literals_of cs

-- what a diagram tests and assigns, each as often as it stands there
abbrev pub literals : Tree → List Lit
literals (Leaf cs) = literals_of cs
literals (Node l t e) = l ∷ (literals t ++ literals e)

abbrev pub has_lit : Lit → List Lit → Bool
has_lit l [] = false
has_lit l (m ∷ ms) = lit_eq l m || has_lit l ms

-- each once
abbrev pub distinct : List Lit → List Lit
distinct [] = []
distinct (l ∷ ls) = if has_lit l ls then distinct ls else l ∷ distinct ls

-- new has what old has, and the literals, and nothing else, and none twice
pub record Gathers (ls old new : List Lit) : Type 0 where
  pub kept : (m : Lit) → IsIn old m → IsIn new m
  pub has : (m : Lit) → IsIn ls m → IsIn new m
  pub only : (m : Lit) → IsIn new m → IsIn old m ⊎ IsIn ls m
  pub once : EachOnce old → EachOnce new

-- how many values a diagram names
abbrev pub name_count : Tree → ℕ
name_count t = length (distinct (literals t))

-- a diagram names at most 4,000 values
abbrev pub IsFew : Tree → Type 0
IsFew t = name_count t ≤ 4000

-- two diagrams name at most 4,000 values together
pub record AreFew (a b : Tree) : Type 0 where
  pub bound : length (distinct (literals a ++ literals b)) ≤ 4000

-- a packet in range that has none of the values
pub record IsFreshFor (a b : Tree) (g : Packet) : Type 0 where
  pub in_range : IsInRange g
  pub fresh_a : IsFresh g a
  pub fresh_b : IsFresh g b
