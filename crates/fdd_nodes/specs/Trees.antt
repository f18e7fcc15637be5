-- What a diagram is, and what it answers.
use Rattle.std.specs.Prelude.{◌≡◌, ℕ, ◌+◌, ◌*◌, ◌≤◌, ◌⊎◌, List, [], ◌∷◌, map, if◌then◌else◌, ◌==◌}
use Rattle.nk_values.specs.declared.packet.Packet.{Packet}
use Rattle.nk_values.specs.declared.lit.Lit.{Lit}
use Rattle.nk_values.specs.Lits.{lit_field, lit_value}
use Rattle.nk_values.specs.Held.{put}
use Rattle.nk_values.specs.Members.{IsIn, SameMembers}
use Rattle.nk_values.specs.Packets.{get}
use Rattle.nk_values.specs.Ranges.{place}
use Rattle.nk_values.specs.Ranks.{step, rank}
use Rattle.fdd_nodes.specs.declared.node.Node.TheVariants as made
use Rattle.fdd_nodes.specs.declared.node.Node as rust

-- a diagram without where it lies in memory: a leaf with its copies, or a test with the branches where it holds and
-- where not
pub data Tree : Type 0 where
  Leaf : List (List Lit) → Tree
  Node : Lit → Tree → Tree → Tree

abbrev pub tree : rust.Node → Tree
tree (made.Leaf cs) = Leaf cs
tree (made.Test' l p t q e) = Node l (tree t) (tree e)

-- the copies of the leaf on a packet's path
abbrev pub leaf_at : Tree → Packet → List (List Lit)
leaf_at (Leaf cs) p = cs
leaf_at (Node l t e) p = if get p (lit_field l) == lit_value l then leaf_at t p else leaf_at e p

-- the packet with a copy's assignments, made from the first on
abbrev pub apply : List Lit → Packet → Packet
apply [] p = p
apply (l ∷ c) p = apply c (put l p)

-- what copies make of a packet
abbrev pub outcomes : List (List Lit) → Packet → List Packet
outcomes cs p = map (λ c. apply c p) cs

-- what a diagram answers
abbrev pub answers : Tree → Packet → List Packet
answers t p = outcomes (leaf_at t p) p

-- Answers are read as sets: where two are compared, by their members. What is said of one answer alone, as that a
-- packet is in it, asks for no order either.
abbrev pub SameAnswers : List Packet → List Packet → Type 0
SameAnswers xs ys = SameMembers xs ys

-- Tests rise by field and then by value, from the place k on. Below a true branch its field is not tested again.
abbrev pub IsOrderedFrom : ℕ → Tree → Type 0
IsOrderedFrom k (Leaf cs) = Unit {0}
IsOrderedFrom k (Node l t e) = (k ≤ rank l) × IsOrderedFrom (step * (place (lit_field l) + 1)) t ×
    IsOrderedFrom (rank l + 1) e

abbrev pub IsOrdered : Tree → Type 0
IsOrdered t = IsOrderedFrom 0 t

-- the literal is tested
abbrev pub Tests : Tree → Lit → Type 0
Tests (Leaf cs) m = ⊥
Tests (Node l t e) m = (l ≡ m) ⊎ (Tests t m ⊎ Tests e m)

-- some of the copies has the literal
abbrev pub IsSetBy : List (List Lit) → Lit → Type 0
IsSetBy [] m = ⊥
IsSetBy (c ∷ cs) m = IsIn c m ⊎ IsSetBy cs m

-- the literal is assigned
abbrev pub Assigns : Tree → Lit → Type 0
Assigns (Leaf cs) m = IsSetBy cs m
Assigns (Node l t e) m = Assigns t m ⊎ Assigns e m
