-- What a run of the world is for the controller alone, and which of its events can happen in the world.
use Rattle.std.specs.Prelude.{◌≡◌, ℕ, List, [], ◌∷◌, ◌++◌}
use Rattle.std.specs.List.{AllByRecursion}
use Rattle.openflow_wire.specs.declared.message.Message.{Message}
use Rattle.update_coordinator.specs.Controls.{Control}
use Rattle.world_core.specs.declared.event.Event.{Event}
use Rattle.world_core.specs.declared.event.Event.TheVariants as event
use Rattle.world_core.specs.declared.event.ControllerEvent.TheVariants as of_controller
use Rattle.world_core.specs.declared.event.PacketEvent.TheVariants as of_packet
use Rattle.world_core.specs.Worlds.{WorldValue, IsKept}
use Rattle.world_core.specs.Steps.{IsEnabled, NoneCarries, Runs, Stands, Step}
use Rattle.drive_journal.specs.declared.steering.Steering.{Steering}
use Rattle.drive_journal.specs.declared.steering.Steering.TheVariants.{Begin, Send, Heard, Drained, Lost, Garbled}
use Rattle.drive_journal.specs.Losses.{HaltsAtLoss}
use Rattle.drive_journal.specs.Steering.{Steers, Drives}

-- ---- from the world to the controller

-- no foreign bytes, and no report of a copy that is stuck
abbrev pub IsHonest : Event → Type 0
IsHonest (event.Foreign s side got) = ⊥
IsHonest (event.Packet (of_packet.Stuck k)) = ⊥
IsHonest _ = Unit {0}

-- the message is the front of the channel from switch s
abbrev pub IsFrontAt : WorldValue → ℕ → Message → Type 0
IsFrontAt w s m = Stands s w (λ e. (rest : List Message) × (e.back ≡ m ∷ rest))

-- the message is the last of the channel to switch s
abbrev pub IsPutAt : WorldValue → ℕ → Message → Type 0
IsPutAt w s m = Stands s w (λ e. (others : List Message) × (e.there ≡ others ++ m ∷ []))

-- What an event of the world, which led from w to v, is for the controller. No switch comes back.
abbrev pub Shows : WorldValue → Event → WorldValue → List Steering → Type 0
Shows w (event.Controller of_controller.Begin) v es = es ≡ Begin ∷ []
Shows w (event.Controller (of_controller.Send s)) v es = (m : Message) × IsPutAt v s m × (es ≡ Send s m ∷ [])
Shows w (event.Controller (of_controller.Heard s)) v es = (m : Message) × IsFrontAt w s m × (es ≡ Heard s m ∷ [])
Shows w (event.Controller (of_controller.Drained stamp)) v es = es ≡ Drained stamp ∷ []
Shows w (event.Controller (of_controller.Lost s)) v es = es ≡ Lost s ∷ []
Shows w (event.Controller (of_controller.Rejoin s)) v es = ⊥
Shows w (event.Foreign s side got) v es = ⊥
Shows w (event.Packet (of_packet.Stuck k)) v es = ⊥
Shows w _ v es = es ≡ []

-- What a run is for the controller, event by event.
abbrev pub Projects : WorldValue → List Event → WorldValue → List Steering → Type 0
Projects w [] v es = (w ≡ v) × (es ≡ [])
Projects w (e ∷ events) v es = (x : WorldValue) × (here : List Steering) × (rest : List Steering) × Step w e x ×
    Shows w e x here × Projects x events v rest × (es ≡ here ++ rest)

-- If the first loss halts the world, the controller's part of a run is a run of the controller, with the same
-- coordinator.
abbrev pub RunsAreDriven : Type 0
RunsAreDriven = (w : WorldValue) (events : List Event) (v : WorldValue) → HaltsAtLoss w.fleet.control →
    AllByRecursion IsHonest events → Runs w events v → (es : List Steering) × Projects w events v es ×
    Drives w.fleet.control es v.fleet.control

-- ---- from the controller to the world

-- The event of the world that an event of the controller is: a message is the front of its channel, and no copy carries
-- the stamp of a drain.
abbrev pub Means : WorldValue → Steering → Event → Type 0
Means w Begin e = e ≡ (event.Controller of_controller.Begin)
Means w (Send s m) e = e ≡ event.Controller (of_controller.Send s)
Means w (Heard s m) e = IsFrontAt w s m × (e ≡ event.Controller (of_controller.Heard s))
Means w (Drained stamp) e = NoneCarries stamp w.flights × (e ≡ event.Controller (of_controller.Drained stamp))
Means w (Lost s) e = e ≡ event.Controller (of_controller.Lost s)
Means w (Garbled s f) e = ⊥

-- If the first loss halts the world, what the controller can do next can happen in it, and leads to the same
-- coordinator.
abbrev pub SteeringIsEnabled : Type 0
SteeringIsEnabled = (w : WorldValue) (s : Steering) (d : Control) (e : Event) → IsKept w →
    HaltsAtLoss w.fleet.control → Steers w.fleet.control s d → Means w s e → IsEnabled w e ×
    ((v : WorldValue) × Step w e v × (v.fleet.control ≡ d))
