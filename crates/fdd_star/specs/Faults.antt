-- Faults of parts.
use Rattle.std.specs.Prelude.{◌≡◌, ◌⊎◌}
use Rattle.nk_values.specs.declared.field.Field.{Field}
use Rattle.nk_values.specs.declared.packet.Packet.{Packet}
use Rattle.nk_values.specs.declared.lit.Lit.{Lit}
use Rattle.nk_values.specs.Held.{Holds}
use Rattle.nk_values.specs.Packets.{get}
use Rattle.fdd_nodes.specs.Cells.{Agrees, IsUnset}
use Rattle.fdd_nodes.specs.Trees.{Tree, Tests}
use Rattle.fdd_star.specs.declared.fault.StarError.{StarError}
use Rattle.fdd_star.specs.declared.fault.StarError.TheVariants.{Fault, Memory}
use Rattle.fdd_star.specs.declared.fault.StarFault.{StarFault}
use Rattle.fdd_star.specs.Stars.{IsDeep}
use Rattle.fdd_store.specs.Operations.{LeavesOut}

-- The star is deep, on a packet of the cell c. The packet is g in each field that neither c fixes nor p tests; and what
-- it holds c or g holds, or p tests it.
pub record IsFaultIn (p : Tree) (c g : Packet) (f : StarFault) : Type 0 where
  pub deep : IsDeep p f.packet f.output
  pub agrees : Agrees c f.packet
  pub kept : (x : Field) → IsUnset c x → LeavesOut x p → get f.packet x ≡ get g x
  pub only : (m : Lit) → Holds f.packet m → Holds c m ⊎ (Holds g m ⊎ Tests p m)

-- nothing is said of memory
abbrev pub IsErrorIn : Tree → Packet → Packet → StarError → Type 0
IsErrorIn p c g (Fault f) = IsFaultIn p c g f
IsErrorIn p c g Memory = Unit {0}
