-- What holds of every run of the world.
use Rattle.std.specs.Prelude.{◌≡◌, ◌≢◌, ◌⊎◌, ◌≤◌, ℕ, suc, ◌+◌, Bool, true, false, List, [], ◌∷◌, length, slice_get}
use Rattle.std.specs.Prelude.{option_map, Some, None}
use Rattle.nk_values.specs.declared.rows.Rows.{Rows}
use Rattle.nk_values.specs.Members.{IsIn}
use Rattle.nk_values.specs.Patterns.{Incoming}
use Rattle.topology_model.specs.Layouts.{Layout}
use Rattle.topology_model.specs.Wired.{IsTopology}
use Rattle.policy_rows.specs.declared.version.Version.{Version}
use Rattle.packet_tracer.specs.declared.flight.Flight.{Flight}
use Rattle.packet_tracer.specs.Hops.{NoTie}
use Rattle.update_coordinator.specs.declared.phase.Phase.TheVariants as phase
use Rattle.update_coordinator.specs.Calls.{draining}
use Rattle.update_laws.specs.Fleets.{WiredSwitch, AppliesAt, waited, IsFleet}
use Rattle.update_laws.specs.Settings.{AreVersions}
use Rattle.update_laws.specs.Traffic.{Arrived, IsGood, IsLanded}
use Rattle.world_core.specs.declared.settings.Settings.{Settings}
use Rattle.world_core.specs.declared.event.Event.{Event}
use Rattle.world_core.specs.declared.event.Event.TheVariants as event
use Rattle.world_core.specs.declared.event.ControllerEvent.TheVariants as of_controller
use Rattle.world_core.specs.declared.event.PacketEvent.TheVariants as of_packet
use Rattle.world_core.specs.declared.event.SwitchEvent.TheVariants as of_switch
use Rattle.world_core.specs.Worlds.{WorldValue, setting, initial_world, IsKept}
use Rattle.world_core.specs.Settling.{Exhausts}
use Rattle.world_core.specs.Steps.{InFleet, IsEnabled, Step, Runs}

-- Of each packet that came in: its finished histories and the futures of its copies are, each exactly once, its
-- complete histories under one policy, the one that was current when it came in or the one that was coming in.
abbrev pub AreGood : WorldValue → Type 0
AreGood w = (n : ℕ) (a : Arrived) → slice_get w.arrivals n ≡ Some a → IsGood w.topology (setting w) w.flights n a

-- it is so after every list of events
abbrev pub EveryRunIsGood : WorldValue → Type 0
EveryRunIsGood w = (events : List Event) (v : WorldValue) → Runs w events v → AreGood v

-- A world that starts with rows for its policies keeps what every world keeps.
abbrev pub StartIsKept : Type 0
StartIsKept = (t : Layout) (versions : List Version) (settings : Settings) → IsTopology t →
    AreVersions t versions settings.overlap → 1 ≤ settings.hops → IsKept (initial_world t versions settings)

-- Once no copy of it is in flight, its finished histories are, each exactly once, its complete ones under that policy.
abbrev pub PacketsLand : Type 0
PacketsLand = (w : WorldValue) (n : ℕ) (a : Arrived) → IsKept w → slice_get w.arrivals n ≡ Some a →
    ((f : Flight) → IsIn w.flights f → f.arrival ≢ n) → IsLanded w.topology (setting w) a

-- a halt stays, with the phase that it met
abbrev pub HaltsStay : Type 0
HaltsStay = (w : WorldValue) (e : Event) (v : WorldValue) → w.fleet.control.halt ≢ None → Step w e v →
    v.fleet.control ≡ w.fleet.control

-- how many of these events are losses of sessions
abbrev pub is_loss : Event → Bool
is_loss (event.Controller (of_controller.Lost s)) = true
is_loss _ = false

abbrev pub counted : Bool → ℕ → ℕ
counted true n = suc n
counted false n = n

abbrev pub losses : List Event → ℕ
losses [] = 0
losses (e ∷ es) = counted (is_loss e) (losses es)

-- As long as the coordinator has not halted, each loss took one of those that do not halt it.
abbrev pub LossesCount : Type 0
LossesCount = (w : WorldValue) (events : List Event) (v : WorldValue) → Runs w events v → v.fleet.control.halt ≡ None →
    losses events + v.fleet.control.rejoins ≡ w.fleet.control.rejoins

-- The loss that halts it comes after all of those.
abbrev pub LastLossHalts : Type 0
LastLossHalts = (w : WorldValue) (place : ℕ) (v : WorldValue) →
    Step w (event.Controller (of_controller.Lost place)) v → v.fleet.control.halt ≢ None → w.fleet.control.rejoins ≡ 0

-- nothing can happen but arrivals, and what would halt the coordinator or lose a session
pub record IsStill (w : WorldValue) : Type 0 where
  pub heard : (s : ℕ) → ¬ (IsEnabled w (event.Controller (of_controller.Heard s)))
  pub reply : (s : ℕ) → ¬ (IsEnabled w (event.Switch (of_switch.Reply s)))
  pub apply : (s k : ℕ) → ¬ (IsEnabled w (event.Switch (of_switch.Apply s k)))
  pub take : (s : ℕ) → ¬ (IsEnabled w (event.Switch (of_switch.Take s)))
  pub send : (s : ℕ) → ¬ (IsEnabled w (event.Controller (of_controller.Send s)))
  pub begin : ¬ (IsEnabled w (event.Controller of_controller.Begin))
  pub drained : (stamp : ℕ) → ¬ (IsEnabled w (event.Controller (of_controller.Drained stamp)))
  pub hop : (k : ℕ) → ¬ (IsEnabled w (event.Packet (of_packet.Hop k)))
  pub rejoin : (s : ℕ) → ¬ (IsEnabled w (event.Controller (of_controller.Rejoin s)))

-- a copy with the stamp that is to be drained took as many hops as it may
pub record IsBarred (w : WorldValue) : Type 0 where
  pub flight : Flight
  pub flies : IsIn w.flights flight
  pub stamp : ℕ
  pub old : option_map (λ (v : Rows). v.stamp) (waited w.fleet.control) ≡ Some stamp
  pub carries : flight.tag ≡ Some stamp
  pub limit : w.limit ≤ flight.hops

-- There is no dead end: if nothing can happen all updates are done and nothing drains, or a copy of a policy before
-- bars a drain.
abbrev pub NoDeadEnd : Type 0
NoDeadEnd = (w : WorldValue) → IsKept w → w.fleet.control.halt ≡ None → IsStill w →
    ((w.fleet.control.phase ≡ phase.Idle (length w.versions)) × (draining w.fleet.control ≡ [])) ⊎ IsBarred w

-- drains do not overlap, and each switch has room for the rows of two policies
abbrev pub HasSpace : WorldValue → Type 0
HasSpace w = (w.overlap ≡ None) × (130000 ≤ w.capacity)

-- Then no flow mod meets a full table.
abbrev pub HasTableRoom : Type 0
HasTableRoom = (w : WorldValue) (s k : ℕ) (v : WorldValue) → IsKept w → HasSpace w →
    (h : InFleet (AppliesAt s k) w v) → h.step.answer ≡ None

-- two worlds show the same: the coordinator, the copies in flight, and the packets that came in
pub record ShowsSame (w v : WorldValue) : Type 0 where
  pub control : w.fleet.control ≡ v.fleet.control
  pub flights : w.flights ≡ v.flights
  pub arrivals : w.arrivals ≡ v.arrivals

-- What a world shows is decided by its start and its events, in whatever order its tables keep their rows.
abbrev pub RunsAgree : Type 0
RunsAgree = (w : WorldValue) (events : List Event) (v x : WorldValue) → IsKept w → Runs w events v → Runs w events x →
    ShowsSame v x

-- What is done by itself is decided by where it starts.
abbrev pub FollowsAgree : (WorldValue → List Event) → Type 0
FollowsAgree tried = (w : WorldValue) (es : List Event) (v : WorldValue) (fs : List Event) (u : WorldValue) →
    IsKept w → Exhausts tried w es v → Exhausts tried w fs u → es ≡ fs

-- An event that happens could happen.
abbrev pub StepIsEnabled : Type 0
StepIsEnabled = (w : WorldValue) (e : Event) (v : WorldValue) → IsKept w → Step w e v → IsEnabled w e

-- At each switch what is unsent, on its way, pending and awaited is what is left of its batch, in order, and its table
-- has the rows of the phase but for what is left.
abbrev pub SwitchesFollow : Type 0
SwitchesFollow = (w : WorldValue) → IsKept w → IsFleet (setting w) w.fleet

-- No two rows of a table tie, whatever packet and tag come in.
abbrev pub NoRowsTie : Type 0
NoRowsTie = (w : WorldValue) (place : ℕ) (e : WiredSwitch) → IsKept w → slice_get w.fleet.wired place ≡ Some e →
    (i : Incoming) → NoTie e.switch.table.rows i
