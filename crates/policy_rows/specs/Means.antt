-- Rows that stand for a policy in a topology.
use Rattle.std.specs.Prelude.{◌≡◌, ◌⊎◌, ℕ, ◌-◌, ◌<◌, List, [], ◌∷◌, ◌++◌, map, Option, Some, None, if◌then◌else◌}
use Rattle.std.specs.List.{flat_map}
use Rattle.nk_values.specs.declared.packet.Packet.{Packet}
use Rattle.nk_values.specs.declared.pattern.Pattern.{Pattern}
use Rattle.nk_values.specs.declared.row.Row.{Row}
use Rattle.nk_values.specs.declared.rows.Band.{Band}
use Rattle.nk_values.specs.declared.rows.Band.TheVariants.{High, Low}
use Rattle.nk_values.specs.declared.rows.PortKind.{PortKind}
use Rattle.nk_values.specs.declared.rows.PortKind.TheVariants.{Edge, Linked}
use Rattle.nk_values.specs.declared.rows.PortRows.{PortRows}
use Rattle.nk_values.specs.declared.rows.Rows.{Rows}
use Rattle.nk_values.specs.declared.sent.SentPacket.{SentPacket}
use Rattle.nk_values.specs.Acts.{acted}
use Rattle.nk_values.specs.Members.{IsIn, EachOnce}
use Rattle.nk_values.specs.Packets.{IsWellShaped}
use Rattle.nk_values.specs.Patterns.{Incoming, any, vlan_number}
use Rattle.nk_values.specs.Tables.{first}
use Rattle.nk_values.specs.Tags.{IsVlanId}
use Rattle.nk_syntax.specs.Terms.{Term}
use Rattle.history_meaning.specs.Network.{Location, Wiring}
use Rattle.history_meaning.specs.Plain.{HasResult, IsPlain}
use Rattle.topology_model.specs.Layouts.{Layout, location_of, same_location, is_linked, locations_at, wiring}

-- the port at which a packet stands
abbrev pub standing : Packet → Location
standing pk = location_of (pk.sw, pk.pt)

-- a packet with a tag, as its switch sees it
abbrev pub incoming : Packet → Option ℕ → Incoming
incoming pk tag = record { port = pk.pt; header = pk.header; tag = tag }

-- what switch sw sends, as a packet at the port by which it leaves
abbrev pub sent_packet : ℕ → SentPacket → Packet
sent_packet sw x = record { sw = sw; pt = x.port; header = x.header }

-- a packet, sent with a tag
abbrev pub sent_as : Packet → Option ℕ → SentPacket
sent_as q tag = record { port = q.pt; header = q.header; tag = tag }

-- The first row that hits pk sends exactly the policy's results at declared ports: untagged at edge ports, with the
-- stamp at linked ports.
pub record AnswersPolicy (w : Wiring) (p : Term) (stamp : ℕ) (rows : List Row) (tag : Option ℕ) (pk : Packet) : Type 0
  where
    pub row : Row
    pub found : first (incoming pk tag) rows ≡ Some row
    pub results : (x : SentPacket) → IsIn (acted row.actions (incoming pk tag)) x → HasResult p pk (sent_packet pk.sw x)
    pub tags : (x : SentPacket) → IsIn (acted row.actions (incoming pk tag)) x →
        (IsIn w.edges (standing (sent_packet pk.sw x)) × (x.tag ≡ None)) ⊎
        ((b : Location) × IsIn w.links (standing (sent_packet pk.sw x), b) × (x.tag ≡ Some stamp))
    pub leaves : (q : Packet) → HasResult p pk q → IsIn w.edges (standing q) →
        IsIn (acted row.actions (incoming pk tag)) (sent_as q None)
    pub goes : (q : Packet) (b : Location) → HasResult p pk q → IsIn w.links (standing q, b) →
        IsIn (acted row.actions (incoming pk tag)) (sent_as q (Some stamp))
    pub once : EachOnce (acted row.actions (incoming pk tag))

-- the pattern that fixes a port and a tag, and nothing else
abbrev pub port_pattern : ℕ → Option ℕ → Pattern
port_pattern port tag = record any { in_port = Some port; dl_vlan = Some (vlan_number tag) }

-- it fixes this port and this tag, and leaves the tag's priority and the type of service open
pub record FixesPort (port : ℕ) (tag : Option ℕ) (pattern : Pattern) : Type 0 where
  pub in_port : pattern.in_port ≡ Some port
  pub dl_vlan : pattern.dl_vlan ≡ Some (vlan_number tag)
  pub dl_vlan_pcp : pattern.dl_vlan_pcp ≡ None
  pub nw_tos : pattern.nw_tos ≡ None

-- the priorities go down by one from row to row, and stay above 0
abbrev pub Ranked : ℕ → List Row → Type 0
Ranked top [] = Unit {0}
Ranked top (r ∷ rs) = (r.priority ≡ top) × (0 < top) × Ranked (top - 1) rs

-- the last row has this pattern
pub record EndsWith (pattern : Pattern) (rows : List Row) : Type 0 where
  pub before : List Row
  pub last : Row
  pub all : rows ≡ before ++ last ∷ []
  pub last_pattern : last.pattern ≡ pattern

-- The rows of port a stand for the policy there, for packets with this tag.
pub record PortMeans (w : Wiring) (p : Term) (stamp top : ℕ) (a : Location) (tag : Option ℕ) (rows : List Row) : Type 0
  where
    pub fixed : (r : Row) → IsIn rows r → FixesPort a.pt tag r.pattern
    pub ranked : Ranked top rows
    pub ends : EndsWith (port_pattern a.pt tag) rows
    pub answers : (pk : Packet) → IsWellShaped pk → standing pk ≡ a → AnswersPolicy w p stamp rows tag pk

-- the priority of the first row of a port
abbrev pub top_of : Band → PortKind → ℕ
top_of High Edge = 36000
top_of Low Edge = 16000
top_of band Linked = 56000

-- the tag of packets at a port
abbrev pub port_tag : PortKind → ℕ → Option ℕ
port_tag Edge stamp = None
port_tag Linked stamp = Some stamp

-- whether a declared port has a link
abbrev pub kind_at : Layout → Location → PortKind
kind_at t a = if is_linked t a then Linked else Edge

-- the declared ports, in their order, each with its kind
abbrev pub declared_ports : Layout → List (Location × PortKind)
declared_ports t = map (λ a. (a, kind_at t a)) (flat_map locations_at t.switches)

abbrev pub port_place : PortRows → Location
port_place port = location_of (port.sw, port.pt)

abbrev pub port_of : PortRows → Location × PortKind
port_of port = (port_place port, port.kind)

-- the rows of a port, none where it has no list
abbrev pub rows_at : List PortRows → Location → List Row
rows_at [] a = []
rows_at (port ∷ ports) a = if same_location (port_place port) a then port.rows else rows_at ports a

-- The rows stand for a plain policy in this topology: there is one list for each declared port, in their order, and
-- each stands for the policy at its port.
pub record RowsMean (rows : Rows) (p : Term) (t : Layout) : Type 0 where
  pub plain : IsPlain p
  pub stamp : IsVlanId rows.stamp
  pub ports : map port_of rows.ports ≡ declared_ports t
  pub means : (port : PortRows) → IsIn rows.ports port →
      PortMeans (wiring t) p rows.stamp (top_of rows.band port.kind) (port_place port) (port_tag port.kind rows.stamp)
      port.rows
