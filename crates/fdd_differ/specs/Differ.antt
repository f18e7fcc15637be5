-- Differences of diagrams.
use Rattle.nk_values.specs.declared.packet.Packet.{Packet}
use Rattle.nk_values.specs.Packets.{IsInRange}
use Rattle.fdd_nodes.specs.Trees.{Tree, answers, SameAnswers}

-- the diagrams answer alike on all packets in range
pub record AreAlike (a b : Tree) : Type 0 where
  pub same : (p : Packet) → IsInRange p → SameAnswers (answers a p) (answers b p)

-- a packet in range on which the diagrams answer apart
pub record Shows (a b : Tree) (p : Packet) : Type 0 where
  pub in_range : IsInRange p
  pub apart : ¬ SameAnswers (answers a p) (answers b p)
