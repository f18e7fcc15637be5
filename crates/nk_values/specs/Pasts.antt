-- The packets of a history before its newest one, as they lie in memory.
use Rattle.std.specs.Prelude.{List, [], ◌∷◌, Option, Some, None}
use Rattle.std.specs.declared.alloc.Global.{Global}
use Rattle.std.specs.declared.sync.Arc.{Arc}
use Rattle.nk_values.specs.declared.packet.Packet.{Packet}
use Rattle.nk_values.specs.declared.past.Past.{Past, Past', Held-Past-older, None', Some'}

abbrev mutual
  -- its packets, newest first
  pub past_packets : Past → List Packet
  past_packets (Past' packet older) = packet ∷ held_packets older

  pub held_packets : Held-Past-older → List Packet
  held_packets None' = []
  held_packets (Some' p past) = past_packets past

-- the packets of a past, if there is one
abbrev pub older_packets : Option (Arc Past Global) → List Packet
older_packets None = []
older_packets (Some past) = past_packets past.value
