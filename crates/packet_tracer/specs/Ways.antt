-- Histories that begin with one packet.
use Rattle.std.specs.Prelude.{◌≡◌, List, [], ◌∷◌}
use Rattle.nk_values.specs.declared.packet.Packet.{Packet}
use Rattle.nk_values.specs.Members.{IsIn}
use Rattle.nk_values.specs.Packets.{IsInRange}
use Rattle.nk_values.specs.Trails.{Trail, packets}

-- the oldest of a packet and those before it
abbrev pub oldest_of : Packet → List Packet → Packet
oldest_of q [] = q
oldest_of q (p ∷ ps) = oldest_of p ps

abbrev pub oldest : Trail → Packet
oldest h = oldest_of h.newest h.older

-- a history that begins with this packet, and whose packets are all in range
pub record IsWayOf (pk : Packet) (h : Trail) : Type 0 where
  pub begins : oldest h ≡ pk
  pub ranged : (q : Packet) → IsIn (packets h) q → IsInRange q
