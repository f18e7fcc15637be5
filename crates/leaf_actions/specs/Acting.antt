-- What the actions of a leaf are to send.
use Rattle.std.specs.Prelude.{◌≡◌, List, [], ◌∷◌, Option, Some, None}
use Rattle.std.specs.List.{flat_map}
use Rattle.std.specs.List.Sorted.{IsPermutation}
use Rattle.nk_values.specs.declared.action.Action.{Action}
use Rattle.nk_values.specs.declared.packet.Packet.{Packet}
use Rattle.nk_values.specs.declared.lit.Lit.{Lit}
use Rattle.nk_values.specs.declared.sent.SentPacket.{SentPacket}
use Rattle.nk_values.specs.Acts.{acted}
use Rattle.fdd_nodes.specs.Cells.{Agrees}
use Rattle.fdd_nodes.specs.Trees.{outcomes}
use Rattle.policy_rows.specs.Means.{port_tag}
use Rattle.leaf_actions.specs.declared.view.PortView.{PortView}
use Rattle.leaf_actions.specs.declared.view.SwitchPort.{SwitchPort}
use Rattle.leaf_actions.specs.Views.{port_in, arriving}

abbrev pub sent_by_port : PortView → Packet → Option SwitchPort → List SentPacket
sent_by_port v q None = []
sent_by_port v q (Some s) = record { port = s.pt; header = q.header; tag = port_tag s.kind v.stamp } ∷ []

-- a packet as it leaves by its port, if that port is declared: untagged at an edge port, with the stamp at a linked one
abbrev pub sent_at : PortView → Packet → List SentPacket
sent_at v q = sent_by_port v q (port_in v.ports q.pt)

-- what copies make of a packet, as it leaves by declared ports
abbrev pub sendings : PortView → List (List Lit) → Packet → List SentPacket
sendings v cs p = flat_map (sent_at v) (outcomes cs p)

-- Of each packet of the cell x at the view's port, with the tag of that port, the actions send the copies, each once,
-- in some order.
pub record ActsAs (x : Packet) (v : PortView) (cs : List (List Lit)) (as' : List Action) : Type 0 where
  pub same : (p : Packet) → Agrees x p → p.pt ≡ v.pt → IsPermutation (sendings v cs p) (acted as' (arriving v p))
