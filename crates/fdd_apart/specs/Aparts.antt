-- Diagrams that answer a well-shaped packet apart.
use Rattle.std.specs.Prelude.{◌≡◌, ℕ, List}
use Rattle.nk_values.specs.declared.packet.Packet.{Packet}
use Rattle.nk_values.specs.Members.{IsIn}
use Rattle.nk_values.specs.Packets.{IsWellShaped}
use Rattle.nk_values.specs.declared.lit.Lit.{Lit}
use Rattle.fdd_nodes.specs.Cells.{fill}
use Rattle.fdd_nodes.specs.Trees.{Tree, answers, SameAnswers, Tests, Assigns}
use Rattle.fdd_differ.specs.declared.frame.Frame.{Frame}
use Rattle.fdd_differ.specs.Frames.{IsFrame, frame_cell}
use Rattle.fdd_differ.specs.Unnamed.{AreFewNames, IsFreshOf}
use Rattle.fdd_store.specs.Stores.{Kept, Has, tree_at}
use Rattle.fdd_apart.specs.declared.finding.Side.{Side}
use Rattle.fdd_apart.specs.declared.finding.Side.TheVariants.{First, Second}
use Rattle.fdd_apart.specs.declared.finding.Difference.{Difference}

-- the diagrams answer each well-shaped packet alike
pub record AreAlikeShaped (a b : Tree) : Type 0 where
  pub same : (p : Packet) → IsWellShaped p → SameAnswers (answers a p) (answers b p)

-- each of one kind, and of two kinds
pub record AreAlikeOf (k : Frame) (a b : Tree) : Type 0 where
  pub same : (p : Packet) → IsWellShaped p → IsFrame k p → SameAnswers (answers a p) (answers b p)

pub record AreAlikeBoth (k j : Frame) (a b : Tree) : Type 0 where
  pub one : AreAlikeOf k a b
  pub other : AreAlikeOf j a b

-- each literal that the diagram tests or assigns is named
pub record AreNamesOf (ls : List Lit) (t : Tree) : Type 0 where
  pub tests : (m : Lit) → Tests t m → IsIn ls m
  pub assigns : (m : Lit) → Assigns t m → IsIn ls m

-- two diagrams of the store, and the literals that they name
pub record IsAsked (k : Kept) (a b : ℕ) (ls : List Lit) : Type 0 where
  pub has_a : Has k a
  pub has_b : Has k b
  pub few : AreFewNames ls
  pub named_a : AreNamesOf ls (tree_at k a)
  pub named_b : AreNamesOf ls (tree_at k b)

-- the output is one that just this side gives
abbrev pub GivesAlone : Side → Tree → Tree → Packet → Packet → Type 0
GivesAlone First a b p x = IsIn (answers a p) x × ¬ IsIn (answers b p) x
GivesAlone Second a b p x = IsIn (answers b p) x × ¬ IsIn (answers a p) x

-- a well-shaped packet, and an output that just one side gives
pub record IsApart (a b : Tree) (x : Difference) : Type 0 where
  pub shaped : IsWellShaped x.packet
  pub alone : GivesAlone x.side a b x.packet x.output

-- the same of a packet that is given
pub record IsApartOn (a b : Tree) (p : Packet) (x : Difference) : Type 0 where
  pub packet : x.packet ≡ p
  pub alone : GivesAlone x.side a b x.packet x.output

-- an output of the packet that the one gives, and the other does not
pub record IsLoneOutput (a b : Tree) (p x : Packet) : Type 0 where
  pub given : IsIn (answers a p) x
  pub missing : ¬ IsIn (answers b p) x

-- the packet of a cell that is otherwise what a kind fixes, and else holds none of the literals
pub record IsPacketOf (q : Packet) (k : Frame) (ls : List Lit) (p : Packet) : Type 0 where
  pub other : Packet
  pub fresh : IsFreshOf ls other
  pub is : p ≡ fill q (fill (frame_cell k) other)
