-- What the orders of a schedule do in a world.
use Rattle.std.specs.Prelude.{◌≡◌, ℕ, ◌-◌, List, [], ◌∷◌, ◌++◌, Option, Some, None, option_map, slice_get}
use Rattle.topology_model.specs.Layouts.{place_in}
use Rattle.topology_model.specs.declared.line.DeclaredSwitch.{DeclaredSwitch}
use Rattle.document_text.specs.declared.document.ScheduleStep.{ScheduleStep}
use Rattle.document_text.specs.declared.document.ScheduleStep.TheVariants as order
use Rattle.document_text.specs.declared.document.PacketLine.{PacketLine}
use Rattle.document_text.specs.declared.document.ScheduleLine.{ScheduleLine}
use Rattle.world_core.specs.declared.event.Event.{Event}
use Rattle.world_core.specs.declared.event.Event.TheVariants as event
use Rattle.world_core.specs.declared.event.ControllerEvent.TheVariants as of_controller
use Rattle.world_core.specs.declared.event.PacketEvent.TheVariants as of_packet
use Rattle.world_core.specs.declared.event.SwitchEvent.TheVariants as of_switch
use Rattle.world_core.specs.Worlds.{WorldValue}
use Rattle.world_core.specs.Steps.{IsEnabled, Step}
use Rattle.world_core.specs.Settling.{Exhausts, settling, flowing}

-- the packet of a line comes in
abbrev pub arrive : PacketLine → Event
arrive line = event.Packet (of_packet.Arrive line.packet line.tag)

-- The event that an order names; `settle` and `flow` name none. A switch goes by its number, and packet lines count
-- from 1.
abbrev pub event_of : List DeclaredSwitch → List PacketLine → ScheduleStep → Option Event
event_of sites packets order.Begin = Some (event.Controller of_controller.Begin)
event_of sites packets (order.Send sw) =
    option_map (λ (p : ℕ). event.Controller (of_controller.Send p)) (place_in sites sw)
event_of sites packets (order.Take sw) = option_map (λ (p : ℕ). event.Switch (of_switch.Take p)) (place_in sites sw)
event_of sites packets (order.Apply sw k) =
    option_map (λ (s : ℕ). event.Switch (of_switch.Apply s k)) (place_in sites sw)
event_of sites packets (order.Reply sw) = option_map (λ (p : ℕ). event.Switch (of_switch.Reply p)) (place_in sites sw)
event_of sites packets (order.Heard sw) =
    option_map (λ (p : ℕ). event.Controller (of_controller.Heard p)) (place_in sites sw)
event_of sites packets (order.Arrive n) = option_map arrive (slice_get packets (n - 1))
event_of sites packets (order.Hop k) = Some (event.Packet (of_packet.Hop k))
event_of sites packets (order.Drained stamp) = Some (event.Controller (of_controller.Drained stamp))
event_of sites packets (order.Lost sw) =
    option_map (λ (p : ℕ). event.Controller (of_controller.Lost p)) (place_in sites sw)
event_of sites packets (order.Rejoin sw) =
    option_map (λ (p : ℕ). event.Controller (of_controller.Rejoin p)) (place_in sites sw)
event_of sites packets (order.Stuck k) = Some (event.Packet (of_packet.Stuck k))
event_of sites packets order.Settle = None
event_of sites packets order.Flow = None

-- one event happens
pub record DoesOne (named : Option Event) (w : WorldValue) (events : List Event) (v : WorldValue) : Type 0 where
  pub event : Event
  pub is : named ≡ Some event
  pub step : Step w event v
  pub all : events ≡ event ∷ []

-- what an order does: `settle` and `flow` do what happens by itself, any other one its event
abbrev pub Does : List DeclaredSwitch → List PacketLine → ScheduleStep → WorldValue → List Event → WorldValue → Type 0
Does sites packets order.Settle w events v = Exhausts settling w events v
Does sites packets order.Flow w events v = Exhausts flowing w events v
Does sites packets c w events v = DoesOne (event_of sites packets c) w events v

-- The lines of a schedule are carried out one after another.
abbrev pub CarriedOut : List DeclaredSwitch → List PacketLine → WorldValue → List ScheduleLine → List Event →
    WorldValue → Type 0
CarriedOut sites packets w [] events v = (events ≡ []) × (w ≡ v)
CarriedOut sites packets w (l ∷ ls) events v =
    (first : List Event) × (x : WorldValue) × (more : List Event) × Does sites packets l.event w first x ×
    CarriedOut sites packets x ls more v × (events ≡ first ++ more)

-- The event that an order names cannot happen; `settle` and `flow` always can.
abbrev pub CannotHappen : List DeclaredSwitch → List PacketLine → ScheduleStep → WorldValue → Type 0
CannotHappen sites packets order.Settle w = ⊥
CannotHappen sites packets order.Flow w = ⊥
CannotHappen sites packets c w = (e : Event) → event_of sites packets c ≡ Some e → ¬ (IsEnabled w e)

-- The lines before the one with this number are carried out, and its event cannot happen then.
pub record StopsAt (sites : List DeclaredSwitch) (packets : List PacketLine) (w : WorldValue)
    (schedule : List ScheduleLine) (line : ℕ) : Type 0 where
  pub before : List ScheduleLine
  pub here : ScheduleLine
  pub behind : List ScheduleLine
  pub all : schedule ≡ before ++ here ∷ behind
  pub number : line ≡ here.line
  pub events : List Event
  pub world : WorldValue
  pub done : CarriedOut sites packets w before events world
  pub refused : CannotHappen sites packets here.event world
