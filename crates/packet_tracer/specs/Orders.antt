-- The order of a port's rows by a destination.
use Rattle.std.specs.Prelude.{◌≡◌, ℕ, ◌≤◌, ◌==◌, List, [], ◌∷◌, length, drop, Option, Some, None, if◌then◌else◌}
use Rattle.std.specs.List.Sorted.{IsNonDecreasing}
use Rattle.nk_values.specs.declared.packet.Header.{Header}
use Rattle.nk_values.specs.declared.pattern.Pattern.{Pattern}
use Rattle.nk_values.specs.declared.pattern.Prefix.{Prefix}
use Rattle.nk_values.specs.declared.row.Row.{Row}
use Rattle.nk_values.specs.declared.rows.PortRows.{PortRows}
use Rattle.nk_values.specs.Patterns.{Incoming}
use Rattle.nk_values.specs.Tables.{first}
use Rattle.packet_tracer.specs.declared.order.Destination.{Destination}
use Rattle.packet_tracer.specs.declared.order.Destination.TheVariants.{Frame, Network}
use Rattle.packet_tracer.specs.declared.order.Order.{Order}

-- an address of which all bits are fixed
abbrev pub whole : Option Prefix → Option ℕ
whole None = None
whole (Some p) = if p.length == 32 then Some p.address else None

-- the number that a pattern fixes a destination to, if it leaves nothing of it open
abbrev pub fixed : Destination → Pattern → Option ℕ
fixed Frame p = p.dl_dst
fixed Network p = whole p.nw_dst

-- a packet's destination
abbrev pub number_in : Destination → Header → ℕ
number_in Frame h = h.eth_dst
number_in Network h = h.ip4_dst

-- the first of the rows fix it to these numbers
abbrev pub AreFixed : Destination → List Row → List ℕ → Type 0
AreFixed d rows [] = Unit {0}
AreFixed d [] (n ∷ ns) = ⊥
AreFixed d (r ∷ rs) (n ∷ ns) = (fixed d r.pattern ≡ Some n) × AreFixed d rs ns

-- and the numbers ascend
pub record AreLeading (d : Destination) (rows : List Row) (numbers : List ℕ) : Type 0 where
  pub are_fixed : AreFixed d rows numbers
  pub ascend : IsNonDecreasing numbers

abbrev pub IsOrder : List Row → Order → Type 0
IsOrder rows o = AreLeading o.destination rows o.numbers.items

-- no row before this place hits a packet with this header
pub record IsStart (rows : List Row) (header : Header) (start : ℕ) : Type 0 where
  pub within : start ≤ length rows
  pub first_is : (i : Incoming) → i.header ≡ header → first i (drop start rows) ≡ first i rows

-- one for each port
abbrev pub AreOrders : List PortRows → List Order → Type 0
AreOrders [] [] = Unit {0}
AreOrders [] (o ∷ os) = ⊥
AreOrders (p ∷ ps) [] = ⊥
AreOrders (p ∷ ps) (o ∷ os) = IsOrder p.rows o × AreOrders ps os
