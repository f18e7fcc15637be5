-- What holds of every run of the world from a start of accepted policies.
use Rattle.std.specs.Prelude.{◌≡◌, ◌↔◌, ◌≤◌, ◌<◌, ℕ, List, ◌∷◌, ◌++◌, length, slice_get, Some, None}
use Rattle.nk_values.specs.Members.{IsIn}
use Rattle.topology_model.specs.Layouts.{Layout}
use Rattle.topology_model.specs.Wired.{IsTopology}
use Rattle.policy_rows.specs.declared.version.Version.{Version}
use Rattle.packet_tracer.specs.declared.flight.Flight.{Flight}
use Rattle.packet_tracer.specs.Ways.{oldest}
use Rattle.openflow_wire.specs.declared.message.Message.{Message}
use Rattle.session_core.specs.Sessions.{move_of}
use Rattle.session_core.specs.declared.session.Move.TheVariants.{Failed}
use Rattle.session_core.specs.declared.session.SessionFault.{SessionFault}
use Rattle.session_core.specs.declared.session.SessionFault.TheVariants.{SwitchError}
use Rattle.update_coordinator.specs.declared.cause.Cause.{Cause}
use Rattle.update_coordinator.specs.declared.cause.Cause.TheVariants as cause
use Rattle.update_coordinator.specs.declared.cause.Side.{Side}
use Rattle.update_laws.specs.Updates.{Live}
use Rattle.update_laws.specs.Settings.{AreVersions, version_at}
use Rattle.update_laws.specs.Fleets.{WiredSwitch}
use Rattle.update_laws.specs.Traffic.{Arrived, IsCovered}
use Rattle.world_core.specs.declared.event.Event.{Event}
use Rattle.world_core.specs.declared.event.Event.TheVariants as event
use Rattle.world_core.specs.declared.event.ControllerEvent.TheVariants as of_controller
use Rattle.world_core.specs.declared.event.PacketEvent.TheVariants as of_packet
use Rattle.world_core.specs.declared.settings.Settings.{Settings}
use Rattle.world_core.specs.Worlds.{WorldValue, setting, initial_world}
use Rattle.world_core.specs.Ends.{channel, HasSession, IsFront}
use Rattle.world_core.specs.Steps.{foreign_cause, IsStuck, Runs, Step}

-- the events lead to the world, from a start of accepted policies
pub record LeadsTo (events : List Event) (w : WorldValue) : Type 0 where
  pub topology : Layout
  pub versions : List Version
  pub settings : Settings
  pub sound : IsTopology topology
  pub accepted : AreVersions topology versions settings.overlap
  pub hops : 1 ≤ settings.hops
  pub runs : Runs (initial_world topology versions settings) events w

-- ---- what copies carry

-- A copy of an arrival is of the policy with this number, counted from 1. It carries the policy's stamp, which copies
-- may carry in this phase, and its history begins with the packet.
pub record IsCopyOf (w : WorldValue) (number : ℕ) (a : Arrived) (f : Flight) : Type 0 where
  pub policy : Version
  pub there : version_at w.versions number ≡ Some policy
  pub live : Live w.fleet.control.swept w.fleet.control.phase number
  pub stamp : f.tag ≡ Some policy.rows.stamp
  pub begins : oldest f.history ≡ a.packet

-- One policy of its entry handles the arrival, and all its copies are of that policy.
pub record HasItsCopies (w : WorldValue) (n : ℕ) (a : Arrived) : Type 0 where
  pub handled : IsCovered w.topology (setting w) w.flights n a
  pub copies : (f : Flight) → IsIn w.flights f → f.arrival ≡ n → IsCopyOf w handled.version a f

-- each copy in flight is one of an arrival
pub record CopiesFollow (w : WorldValue) : Type 0 where
  pub known : (f : Flight) → IsIn w.flights f → f.arrival < length w.arrivals
  pub each : (n : ℕ) (a : Arrived) → slice_get w.arrivals n ≡ Some a → HasItsCopies w n a

abbrev pub CopiesCarry : Type 0
CopiesCarry = (events : List Event) (w : WorldValue) → LeadsTo events w → CopiesFollow w

-- ---- what halts

-- no session more may be lost, and this one is
pub record IsLastLoss (place : ℕ) (w : WorldValue) (why : Cause) : Type 0 where
  pub session : HasSession place w.fleet.control
  pub none_left : w.fleet.control.rejoins ≡ 0
  pub is : why ≡ cause.Lost session.peer.sw

-- By the message at the front of the channel from it, the session fails.
pub record IsFailure (place : ℕ) (w : WorldValue) (why : Cause) : Type 0 where
  pub session : HasSession place w.fleet.control
  pub end_ : WiredSwitch
  pub here : slice_get w.fleet.wired place ≡ Some end_
  pub message : Message
  pub rest : List Message
  pub front : end_.back ≡ message ∷ rest
  pub fault : SessionFault
  pub fails : move_of session.peer.session message ≡ Failed fault
  pub is : why ≡ cause.Failed session.peer.sw fault

-- a copy with the stamp that is to be drained took as many hops as it may
pub record IsUndrained (k : ℕ) (w : WorldValue) (why : Cause) : Type 0 where
  pub stuck : IsStuck k w
  pub is : why ≡ cause.Undrained stuck.flight.history

-- other bytes than the front of a channel were received
pub record IsStrange (place : ℕ) (side : Side) (got : List ℕ) (w : WorldValue) (why : Cause) : Type 0 where
  pub session : HasSession place w.fleet.control
  pub end_ : WiredSwitch
  pub here : slice_get w.fleet.wired place ≡ Some end_
  pub other : ¬ (IsFront got (channel side end_))
  pub is : why ≡ foreign_cause side got end_

-- the event halts the updates of the world for this cause
abbrev pub HaltsFor : WorldValue → Event → Cause → Type 0
HaltsFor w (event.Controller (of_controller.Lost place)) why = IsLastLoss place w why
HaltsFor w (event.Controller (of_controller.Heard place)) why = IsFailure place w why
HaltsFor w (event.Packet (of_packet.Stuck k)) why = IsUndrained k w why
HaltsFor w (event.Foreign place side got) why = IsStrange place side got w why
HaltsFor w _ why = ⊥

-- An event of a world that has not halted halts it exactly if it is one of those.
abbrev pub HaltsExactly : Type 0
HaltsExactly = (w : WorldValue) (e : Event) (v : WorldValue) (why : Cause) → w.fleet.control.halt ≡ None → Step w e v →
    (v.fleet.control.halt ≡ Some why) ↔ HaltsFor w e why

-- one of the events halted, in the world that those before it led to
pub record WasHalted (w : WorldValue) (events : List Event) (why : Cause) : Type 0 where
  pub before : List Event
  pub event : Event
  pub after : List Event
  pub all : events ≡ before ++ event ∷ after
  pub world : WorldValue
  pub led : Runs w before world
  pub halted : HaltsFor world event why

-- If updates have halted, an event of the list halted them, for the cause that they tell.
abbrev pub HaltsTell : Type 0
HaltsTell = (w : WorldValue) (events : List Event) (v : WorldValue) (why : Cause) → w.fleet.control.halt ≡ None →
    Runs w events v → v.fleet.control.halt ≡ Some why → WasHalted w events why

-- From a start of accepted policies, a session fails only by the error of a full table, and without overlap and with
-- room for 130,000 rows by none.
pub record IsSessionRefused (w : WorldValue) (why : Cause) : Type 0 where
  pub sw : ℕ
  pub is : why ≡ cause.Failed sw (SwitchError 3 0)
  pub short : w.overlap ≡ None → w.capacity < 130000

abbrev pub OnlyRefused : Type 0
OnlyRefused = (events : List Event) (w : WorldValue) (place : ℕ) (why : Cause) → LeadsTo events w →
    HaltsFor w (event.Controller (of_controller.Heard place)) why → IsSessionRefused w why
