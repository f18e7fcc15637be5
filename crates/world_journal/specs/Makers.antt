-- Which worker may make which event, and for which an end is kept.
use Rattle.std.specs.Prelude.{◌≡◌, ℕ, ◌+◌, ◌<◌, ◌≤◌, ◌⊎◌, Bool, true, false}
use Rattle.update_coordinator.specs.declared.cause.Side.{Side}
use Rattle.update_coordinator.specs.declared.cause.Side.TheVariants as side
use Rattle.world_core.specs.declared.event.Event.{Event}
use Rattle.world_core.specs.declared.event.Event.TheVariants as event
use Rattle.world_core.specs.declared.event.ControllerEvent.TheVariants as of_controller
use Rattle.world_core.specs.declared.event.PacketEvent.TheVariants as of_packet
use Rattle.world_core.specs.declared.event.SwitchEvent.TheVariants as of_switch

-- With n switches worker 0 is the caller, 1 to n are the sessions, n + 1 to n + n the switches, and the two after them
-- bring packets in.
abbrev pub IsCaller : ℕ → Type 0
IsCaller w = w ≡ 0

abbrev pub IsSession : ℕ → ℕ → ℕ → Type 0
IsSession n w s = (s < n) × (w ≡ s + 1)

abbrev pub IsSwitch : ℕ → ℕ → ℕ → Type 0
IsSwitch n w s = (s < n) × (w ≡ n + s + 1)

abbrev pub IsTraffic : ℕ → ℕ → Type 0
IsTraffic n w = (n + n < w) × (w ≤ n + n + 2)

-- worker w works at this side of switch s
abbrev pub WorksAt : ℕ → ℕ → Side → ℕ → Type 0
WorksAt n w side.Controller s = IsSession n w s
WorksAt n w side.Switch s = IsSwitch n w s

abbrev pub MayMake : ℕ → ℕ → Event → Type 0
MayMake n w (event.Controller of_controller.Begin) = IsCaller w
MayMake n w (event.Controller (of_controller.Send s)) = IsSession n w s
MayMake n w (event.Switch (of_switch.Take s)) = IsSwitch n w s
MayMake n w (event.Switch (of_switch.Apply s k)) = IsSwitch n w s
MayMake n w (event.Switch (of_switch.Reply s)) = IsSwitch n w s
MayMake n w (event.Controller (of_controller.Heard s)) = IsSession n w s
MayMake n w (event.Packet (of_packet.Arrive pk tag)) = IsTraffic n w
MayMake n w (event.Packet (of_packet.Hop k)) = IsTraffic n w
MayMake n w (event.Controller (of_controller.Drained stamp)) = IsCaller w
MayMake n w (event.Controller (of_controller.Lost s)) = IsSession n w s ⊎ IsSwitch n w s
MayMake n w (event.Controller (of_controller.Rejoin s)) = IsCaller w
MayMake n w (event.Packet (of_packet.Stuck k)) = IsCaller w
MayMake n w (event.Foreign s side got) = WorksAt n w side s

-- an end is kept for what ends a session
abbrev pub is_cut : Event → Bool
is_cut (event.Controller (of_controller.Lost s)) = true
is_cut (event.Foreign s side got) = true
is_cut _ = false

-- a switch returns, over a new pair of ends
abbrev pub is_rejoin : Event → Bool
is_rejoin (event.Controller (of_controller.Rejoin s)) = true
is_rejoin _ = false
