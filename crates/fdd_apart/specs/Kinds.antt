-- Diagrams on the well-shaped packets of one kind of frame.
use Rattle.std.specs.Prelude.{ℕ, List}
use Rattle.nk_values.specs.declared.field.Field.{Field}
use Rattle.nk_values.specs.declared.packet.Packet.{Packet}
use Rattle.nk_values.specs.declared.lit.Lit.{Lit}
use Rattle.nk_values.specs.Held.{Holds}
use Rattle.nk_values.specs.Lits.{lit_field, lit_value}
use Rattle.nk_values.specs.Packets.{get}
use Rattle.fdd_nodes.specs.Cells.{IsUnset}
use Rattle.fdd_nodes.specs.Trees.{Tree, answers, SameAnswers, Tests, Assigns}
use Rattle.fdd_differ.specs.declared.frame.Frame.{Frame}
use Rattle.fdd_differ.specs.Frames.{frame_cell, Leaves}
use Rattle.fdd_split.specs.Memos.{EachIs}
use Rattle.fdd_store.specs.Stores.{Kept, Has, Gives, tree_at}

-- each field of the packet has a value that the kind leaves to it
abbrev pub FitsFrame : Frame → Packet → Type 0
FitsFrame k p = (f : Field) → Leaves k f (get p f)

-- x answers the packets of the kind as a does; it names no field that the kind fixes, and tests no value that it
-- excludes
pub record Restricts (k : Frame) (a x : Tree) : Type 0 where
  pub same : (p : Packet) → FitsFrame k p → SameAnswers (answers x p) (answers a p)
  pub tests : (m : Lit) → Tests x m → Tests a m
  pub assigns : (m : Lit) → Assigns x m → Assigns a m
  pub untold : (m : Lit) → Tests x m → IsUnset (frame_cell k) (lit_field m)
  pub left : (m : Lit) → Tests x m → Leaves k (lit_field m) (lit_value m)
  pub clean : (m : Lit) → Assigns x m → ¬ Holds (frame_cell k) m

-- r is the place of such a diagram
abbrev pub IsRestriction : Frame → Kept → ℕ → ℕ → Type 0
IsRestriction k s a r = Has s a × Gives s r (Restricts k (tree_at s a))

-- so is each result for its diagram
abbrev pub AreRestrictions : Frame → Kept → List (ℕ × ℕ) → Type 0
AreRestrictions k s es = EachIs (IsRestriction k s) es
