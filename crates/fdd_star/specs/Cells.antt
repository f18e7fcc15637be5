-- The cells that the iterations of a diagram lead to.
use Rattle.std.specs.Prelude.{◌≡◌, ℕ, List, ◌++◌}
use Rattle.nk_values.specs.declared.packet.Packet.{Packet}
use Rattle.nk_values.specs.Members.{IsIn}
use Rattle.fdd_nodes.specs.Cells.{Agrees}
use Rattle.fdd_nodes.specs.Trees.{Tree, answers}
use Rattle.fdd_store.specs.Stores.{Kept, tree_at}

-- the packet is in one of the cells
pub record Among (cs : List Packet) (pk : Packet) : Type 0 where
  pub cell : Packet
  pub there : IsIn cs cell
  pub agrees : Agrees cell pk

-- what a diagram makes of a packet of the cell d is in one of the cells
pub record Leads (t : Tree) (d : Packet) (cs : List Packet) : Type 0 where
  pub to : (pk q : Packet) → Agrees d pk → IsIn (answers t pk) q → Among cs q

-- and what the diagrams of some places make
pub record AllLead (k : Kept) (d : Packet) (as' : List ℕ) (cs : List Packet) : Type 0 where
  pub each : (a : ℕ) → IsIn as' a → Leads (tree_at k a) d cs

-- the cell c is there, and a iteration from any of the cells leads to one of them
pub record IsClosed (p : Tree) (c : Packet) (cs : List Packet) : Type 0 where
  pub first : IsIn cs c
  pub iteration : (d : Packet) → IsIn cs d → Leads p d cs

-- new has more cells after those of old, among them those to which the diagram leads from the cell d
pub record LeadsOn (t : Tree) (d : Packet) (old new : List Packet) : Type 0 where
  pub more : List Packet
  pub joined : new ≡ old ++ more
  pub leads : Leads t d new

-- and those to which the diagrams of some places lead
pub record AllLeadOn (k : Kept) (t : Tree) (d : Packet) (old new : List Packet) (as' : List ℕ) : Type 0 where
  pub on : LeadsOn t d old new
  pub done : AllLead k d as' new
