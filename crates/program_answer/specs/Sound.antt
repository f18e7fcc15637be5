-- What every document that was read holds to.
use Rattle.std.specs.Prelude.{◌≤◌, ◌<◌, List, length}
use Rattle.nk_values.specs.Members.{IsIn}
use Rattle.nk_values.specs.Packets.{IsWellShaped}
use Rattle.nk_syntax.specs.Terms.{Term}
use Rattle.topology_model.specs.Layouts.{Layout, wiring}
use Rattle.document_text.specs.declared.document.PacketLine.{PacketLine}
use Rattle.document_text.specs.declared.document.Settings.{Settings}
use Rattle.document_text.specs.Documents.{Doc}
use Rattle.fdd_compile.specs.Named.{AreFewNamed, TermNames}
use Rattle.policy_rows.specs.Means.{standing}

-- two or more of the VLAN ids, in order
pub record AreStamps (s : Settings) : Type 0 where
  pub low : 1 ≤ s.stamps.0
  pub rising : s.stamps.0 < s.stamps.1
  pub high : s.stamps.1 ≤ 4094

-- a well-shaped packet at an edge port
pub record IsSoundPacket (t : Layout) (line : PacketLine) : Type 0 where
  pub shaped : IsWellShaped line.packet
  pub edge : IsIn (wiring t).edges (standing line.packet)

abbrev pub AreFewNamedIn : List Term → Type 0
AreFewNamedIn ps = (p : Term) → IsIn ps p → AreFewNamed (TermNames p)

abbrev pub AreSoundPackets : Layout → List PacketLine → Type 0
AreSoundPackets t lines = (line : PacketLine) → IsIn lines line → IsSoundPacket t line

-- the stamps, the hop limit, the number of sessions that may be lost, the number of policies, the values that they
-- name, and the packets are within their ranges
pub record IsSound (d : Doc) : Type 0 where
  pub stamps : AreStamps d.settings
  pub hops : 0 < d.settings.hops
  pub rejoins : d.settings.rejoins ≤ 1000
  pub policies : length d.policies ≤ 64
  pub few : AreFewNamedIn d.policies
  pub packets : AreSoundPackets d.layout d.packets
