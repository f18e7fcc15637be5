-- What the lines of events in reports tell, and how a schedule reads them.
use Rattle.std.specs.Prelude.{◌≡◌, ◌<◌, ◌≤◌, ◌^◌, ℕ, true, List, [], ◌∷◌, ◌++◌, map, length, slice_get, Option, Some}
use Rattle.std.specs.List.{AllByRecursion}
use Rattle.nk_values.specs.Packets.{IsInRange}
use Rattle.nk_values.specs.Tags.{IsTag, IsVlanId}
use Rattle.topology_model.specs.Layouts.{Layout}
use Rattle.topology_model.specs.Wired.{IsTopology}
use Rattle.topology_model.specs.declared.line.DeclaredSwitch.{DeclaredSwitch}
use Rattle.packet_tracer.specs.declared.flight.Flight.{Flight}
use Rattle.update_coordinator.specs.declared.cause.Cause.{Cause}
use Rattle.update_coordinator.specs.declared.phase.Phase.{Phase}
use Rattle.update_laws.specs.Traffic.{Arrived}
use Rattle.world_core.specs.declared.event.Event.{Event}
use Rattle.world_core.specs.declared.event.Event.TheVariants as event
use Rattle.world_core.specs.declared.event.ControllerEvent.TheVariants as of_controller
use Rattle.world_core.specs.declared.event.PacketEvent.TheVariants as of_packet
use Rattle.world_core.specs.declared.event.SwitchEvent.TheVariants as of_switch
use Rattle.value_text.specs.Values.{line}
use Rattle.report_text.specs.Events.{event_text, events_text}
use Rattle.report_text.specs.Causes.{state_text}
use Rattle.report_text.specs.Reports.{IsReportText}
use Rattle.document_text.specs.declared.document.ScheduleStep.{ScheduleStep}
use Rattle.document_text.specs.declared.document.ScheduleStep.TheVariants as command
use Rattle.document_text.specs.States.{State}
use Rattle.document_text.specs.Steps.{Next, step}
use Rattle.document_text.specs.Texts.{words_of}

-- ---- what reports tell

-- The event names switches that are there; its numbers are below 2 ^ 64, and a packet that comes in is in range.
abbrev pub IsInWords : Layout → Event → Type 0
IsInWords t (event.Controller of_controller.Begin) = Unit {0}
IsInWords t (event.Switch (of_switch.Apply place k)) = (place < length t.switches) × (k < 2 ^ 64)
IsInWords t (event.Packet (of_packet.Arrive pk tag)) = IsInRange pk × IsTag tag
IsInWords t (event.Packet (of_packet.Hop k)) = k < 2 ^ 64
IsInWords t (event.Controller (of_controller.Drained stamp)) = stamp < 2 ^ 64
IsInWords t (event.Packet (of_packet.Stuck k)) = k < 2 ^ 64
IsInWords t (event.Controller (of_controller.Send place)) = place < length t.switches
IsInWords t (event.Switch (of_switch.Take place)) = place < length t.switches
IsInWords t (event.Switch (of_switch.Reply place)) = place < length t.switches
IsInWords t (event.Controller (of_controller.Heard place)) = place < length t.switches
IsInWords t (event.Controller (of_controller.Lost place)) = place < length t.switches
IsInWords t (event.Controller (of_controller.Rejoin place)) = place < length t.switches
IsInWords t (event.Foreign place side got) = place < length t.switches

-- the event without foreign bytes, which its line does not show
abbrev pub shown : Event → Event
shown (event.Foreign place side got) = event.Foreign place side []
shown e = e

-- The lines of events give them back, in order, but for foreign bytes.
abbrev pub LinesTell : Type 0
LinesTell = (t : Layout) (es fs : List Event) → IsTopology t → AllByRecursion (IsInWords t) es →
    AllByRecursion (IsInWords t) fs → events_text t.switches es ≡ events_text t.switches fs →
    map shown es ≡ map shown fs

-- the text is a report with these events
pub record IsReportOf (t : Layout) (events : List Event) (text : List ℕ) : Type 0 where
  pub stamps : List ℕ
  pub draining : List ℕ
  pub phase : Phase
  pub halt : Option Cause
  pub flights : List Flight
  pub arrivals : List Arrived
  pub is : IsReportText t.switches events (state_text stamps draining phase halt) flights arrivals text

-- So does a report.
abbrev pub ReportsTell : Type 0
ReportsTell = (t : Layout) (es fs : List Event) (text : List ℕ) → IsTopology t → AllByRecursion (IsInWords t) es →
    AllByRecursion (IsInWords t) fs → IsReportOf t es text → IsReportOf t fs text → map shown es ≡ map shown fs

-- ---- what is read again

-- the switch at a place is there, and the command names it by its number
abbrev pub Names : List DeclaredSwitch → ℕ → (ℕ → ScheduleStep) → ScheduleStep → Type 0
Names switches place of d = (x : DeclaredSwitch) × (slice_get switches place ≡ Some x) × (d ≡ of x.sw)

-- What a schedule has for the event: places of copies and of flow mods are at most 4294967295, and stamps are VLAN ids.
-- No schedule has a packet by itself or foreign bytes.
abbrev pub IsScheduled : List DeclaredSwitch → Event → ScheduleStep → Type 0
IsScheduled switches (event.Controller of_controller.Begin) d = d ≡ command.Begin
IsScheduled switches (event.Controller (of_controller.Send place)) d = Names switches place command.Send d
IsScheduled switches (event.Switch (of_switch.Take place)) d = Names switches place command.Take d
IsScheduled switches (event.Switch (of_switch.Apply place k)) d = (k ≤ 4294967295) ×
    Names switches place (λ n. command.Apply n k) d
IsScheduled switches (event.Switch (of_switch.Reply place)) d = Names switches place command.Reply d
IsScheduled switches (event.Controller (of_controller.Heard place)) d = Names switches place command.Heard d
IsScheduled switches (event.Packet (of_packet.Hop k)) d = (k ≤ 4294967295) × (d ≡ command.Hop k)
IsScheduled switches (event.Controller (of_controller.Drained stamp)) d = IsVlanId stamp × (d ≡ command.Drained stamp)
IsScheduled switches (event.Controller (of_controller.Lost place)) d = Names switches place command.Lost d
IsScheduled switches (event.Controller (of_controller.Rejoin place)) d = Names switches place command.Rejoin d
IsScheduled switches (event.Packet (of_packet.Stuck k)) d = (k ≤ 4294967295) × (d ≡ command.Stuck k)
IsScheduled switches (event.Packet (of_packet.Arrive pk tag)) d = ⊥
IsScheduled switches (event.Foreign place side got) d = ⊥

-- Inside of a schedule that may have one line more, the line that reports print for an event, without the `e ` in
-- front, is read as that event.
abbrev pub PrintedIsRead : Type 0
PrintedIsRead = (s : State) (n : ℕ) (e : Event) (d : ScheduleStep) → IsTopology s.layout → s.inside ≡ true →
    length s.events < 100000 → IsScheduled s.layout.switches e d →
    step s n (words_of (line (event_text s.layout.switches e))) ≡ Next
    (record s { events = s.events ++ record { line = n; event = d } ∷ [] })
