-- Events in memory: most in four bytes each, the others whole.
use Rattle.std.specs.Prelude.{ℕ, ◌+◌, List, [], ◌∷◌, ◌++◌, take, drop, Option, Some, None}
use Rattle.world_core.specs.declared.event.Event.{Event}
use Rattle.world_core.specs.declared.event.Event.TheVariants as event
use Rattle.world_core.specs.declared.event.ControllerEvent.TheVariants as of_controller
use Rattle.world_core.specs.declared.event.PacketEvent.TheVariants as of_packet
use Rattle.world_core.specs.declared.event.SwitchEvent.TheVariants as of_switch
use Rattle.world_core.specs.declared.short.ShortEvent.{ShortEvent}
use Rattle.world_core.specs.declared.short.ShortEvent.TheVariants as short

-- the event that a short one stands for, if it is not kept whole
abbrev pub event_of : ShortEvent → Option Event
event_of short.Begin = Some (event.Controller of_controller.Begin)
event_of (short.Send s) = Some (event.Controller (of_controller.Send s))
event_of (short.Heard s) = Some (event.Controller (of_controller.Heard s))
event_of (short.Drained id) = Some (event.Controller (of_controller.Drained id))
event_of (short.Lost s) = Some (event.Controller (of_controller.Lost s))
event_of (short.Rejoin s) = Some (event.Controller (of_controller.Rejoin s))
event_of (short.Take s) = Some (event.Switch (of_switch.Take s))
event_of (short.Apply pending s) = Some (event.Switch (of_switch.Apply s pending))
event_of (short.Reply s) = Some (event.Switch (of_switch.Reply s))
event_of (short.Hop k) = Some (event.Packet (of_packet.Hop k))
event_of (short.Stuck k) = Some (event.Packet (of_packet.Stuck k))
event_of short.Whole = None

-- how many events kept whole it stands for
abbrev pub wanted : Option Event → ℕ
wanted (Some e) = 0
wanted None = 1

-- the event itself, or else the first of those kept whole
abbrev pub first_of : Option Event → List Event → List Event
first_of (Some e) whole = e ∷ []
first_of None whole = take 1 whole

-- those kept whole that are left for the others
abbrev pub left_of : Option Event → List Event → List Event
left_of (Some e) whole = whole
left_of None whole = drop 1 whole

-- the events that short ones stand for, in order
abbrev pub unpacked : List ShortEvent → List Event → List Event
unpacked [] whole = []
unpacked (s ∷ ss) whole = first_of (event_of s) whole ++ unpacked ss (left_of (event_of s) whole)

-- how many of them are kept whole
abbrev pub whole_count : List ShortEvent → ℕ
whole_count [] = 0
whole_count (s ∷ ss) = wanted (event_of s) + whole_count ss
