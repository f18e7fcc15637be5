-- Cells: what a path fixes, as a packet that holds a number of no field where nothing is fixed.
use Rattle.std.specs.Prelude.{◌≡◌, ◌≢◌, ℕ, ◌≤◌, Bool, Option, Some, None, if◌then◌else◌, ◌==◌}
use Rattle.nk_values.specs.declared.field.Field.{Field}
use Rattle.nk_values.specs.declared.packet.Packet.{Packet}
use Rattle.nk_values.specs.declared.lit.Lit.{Lit}
use Rattle.nk_values.specs.Held.{Holds, put}
use Rattle.nk_values.specs.Lits.{lit_field}
use Rattle.nk_values.specs.Packets.{get}
use Rattle.nk_values.specs.Ranges.{IsValue}
use Rattle.nk_values.specs.Ranks.{rank}
use Rattle.fdd_nodes.specs.Trees.{Tree, Leaf, Node, answers, SameAnswers, IsOrderedFrom, Tests, IsSetBy, Assigns}

-- the number of a field that nothing fixes; no literal has it. It is named where cells are made and asked, and nowhere
-- else.
abbrev pub unset : ℕ
unset = 18446744073709551615

-- a number that a cell can fix
abbrev pub CanFix : ℕ → Type 0
CanFix n = n ≢ unset

-- the cell fixes nothing at the field
abbrev pub IsUnset : Packet → Field → Type 0
IsUnset c f = get c f ≡ unset

abbrev pub is_unset : Packet → Field → Bool
is_unset c f = get c f == unset

-- the number that the cell fixes at the field, or none
abbrev pub fixed_at : Packet → Field → Option ℕ
fixed_at c f = if is_unset c f then None else Some (get c f)

-- the cell that fixes nothing, and the one that fixes a literal
abbrev pub whole_cell : Packet
whole_cell = record {
  sw = unset;
  pt = unset;
  header = record {
    eth_typ = unset;
    ip_proto = unset;
    eth_src = unset;
    eth_dst = unset;
    ip4_src = unset;
    ip4_dst = unset;
    tcp_src_port = unset;
    tcp_dst_port = unset;
  };
}

abbrev pub cell_of : Lit → Packet
cell_of l = put l whole_cell

-- the packet is in the cell
pub record Agrees (c p : Packet) : Type 0 where
  pub at : (f : Field) → ¬ IsUnset c f → get p f ≡ get c f

-- on each packet of the cell the diagrams answer alike
pub record Alike (c : Packet) (a b : Tree) : Type 0 where
  pub same : (p : Packet) → Agrees c p → SameAnswers (answers a p) (answers b p)

-- the packet has no number that the diagram names at its field
pub record IsFresh (g : Packet) (t : Tree) : Type 0 where
  pub tested : (m : Lit) → Tests t m → ¬ Holds g m
  pub assigned : (m : Lit) → Assigns t m → ¬ Holds g m

-- what the cell fixes, and else the other's number
abbrev pub pick : ℕ → ℕ → ℕ
pick x y = if x == unset then y else x

abbrev pub fill : Packet → Packet → Packet
fill q g = record {
  sw = pick q.sw g.sw;
  pt = pick q.pt g.pt;
  header = record {
    eth_typ = pick q.header.eth_typ g.header.eth_typ;
    ip_proto = pick q.header.ip_proto g.header.ip_proto;
    eth_src = pick q.header.eth_src g.header.eth_src;
    eth_dst = pick q.header.eth_dst g.header.eth_dst;
    ip4_src = pick q.header.ip4_src g.header.ip4_src;
    ip4_dst = pick q.header.ip4_dst g.header.ip4_dst;
    tcp_src_port = pick q.header.tcp_src_port g.header.tcp_src_port;
    tcp_dst_port = pick q.header.tcp_dst_port g.header.tcp_dst_port;
  };
}

-- what is fixed is in range
pub record IsValid (c : Packet) : Type 0 where
  pub at : (f : Field) → ¬ IsUnset c f → IsValue f (get c f)

-- Within the cell c, q is a cell in which the diagrams answer apart: on each packet of q that has no other number which
-- they name. What q fixes beside c comes from their tests.
pub record Parts (c : Packet) (a b : Tree) (q : Packet) : Type 0 where
  pub keeps : (f : Field) → ¬ IsUnset c f → get q f ≡ get c f
  pub valid : IsValid c → IsValid q
  pub beyond : (k : ℕ) → IsOrderedFrom k a → IsOrderedFrom k b → (m : Lit) → IsUnset c (lit_field m) → Holds q m →
      k ≤ rank m
  pub differs : (k : ℕ) → IsOrderedFrom k a → IsOrderedFrom k b → (g : Packet) → IsFresh g a → IsFresh g b →
      ¬ SameAnswers (answers a (fill q g)) (answers b (fill q g))

-- no leaf assigns what the cell or its path in it fixes
abbrev pub Respects : Packet → Tree → Type 0
Respects c (Leaf cs) = (m : Lit) → IsSetBy cs m → ¬ Holds c m
Respects c (Node l t e) = Respects (put l c) t × Respects c e
