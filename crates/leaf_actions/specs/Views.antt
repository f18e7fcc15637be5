-- A port of a switch, and the other ports beside it.
use Rattle.std.specs.Prelude.{ℕ, ◌==◌, List, [], ◌∷◌, Option, Some, None, if◌then◌else◌}
use Rattle.nk_values.specs.declared.packet.Packet.{Packet}
use Rattle.nk_values.specs.Patterns.{Incoming}
use Rattle.policy_rows.specs.Means.{port_tag}
use Rattle.leaf_actions.specs.declared.view.PortView.{PortView}
use Rattle.leaf_actions.specs.declared.view.SwitchPort.{SwitchPort}

-- the declared port with this number, if there is one
abbrev pub port_in : List SwitchPort → ℕ → Option SwitchPort
port_in [] n = None
port_in (p ∷ ps) n = if p.pt == n then Some p else port_in ps n

-- a packet as it comes in by the view's port
abbrev pub arriving : PortView → Packet → Incoming
arriving v p = record { port = v.pt; header = p.header; tag = port_tag v.kind v.stamp }
