-- Runs by drawn events: each word draws one of the events that can happen.
use Rattle.std.specs.Prelude.{◌≡◌, ◌⊎◌, ℕ, zero, suc, ◌+◌, ◌%◌, List, [], ◌∷◌, ◌++◌, length, drop, slice_get, Option}
use Rattle.std.specs.Prelude.{Some, None, option_map}
use Rattle.rand_pcg.specs.Lcg.{Lcg}
use Rattle.nk_values.specs.declared.rows.Rows.{Rows}
use Rattle.document_text.specs.declared.document.PacketLine.{PacketLine}
use Rattle.update_coordinator.specs.declared.cause.Cause.{Cause}
use Rattle.update_coordinator.specs.Calls.{leaving}
use Rattle.update_coordinator.specs.Controls.{Control}
use Rattle.update_laws.specs.Fleets.{WiredSwitch}
use Rattle.world_core.specs.declared.event.Event.{Event}
use Rattle.world_core.specs.declared.event.Event.TheVariants as event
use Rattle.world_core.specs.declared.event.ControllerEvent.TheVariants as of_controller
use Rattle.world_core.specs.declared.event.PacketEvent.TheVariants as of_packet
use Rattle.world_core.specs.declared.event.SwitchEvent.TheVariants as of_switch
use Rattle.world_core.specs.Settling.{NoneIs, hops_from}
use Rattle.world_core.specs.Steps.{IsEnabled, Step}
use Rattle.world_core.specs.Worlds.{WorldValue}
use Rattle.workload_gen.specs.Words.{next_word}

-- ---- the events that are tried, in order

-- a switch applies one of n flow mods, from a place on
abbrev pub applies_from : ℕ → ℕ → ℕ → List Event
applies_from s k zero = []
applies_from s k (suc n) = event.Switch (of_switch.Apply s k) ∷ applies_from s (k + 1) n

abbrev pub pending_at : Option WiredSwitch → ℕ
pending_at None = 0
pending_at (Some e) = length e.switch.pending

-- at a switch: it is heard, it answers its barrier, it applies each flow mod that is pending, it takes a message, one
-- is sent to it
abbrev pub tried_at : WorldValue → ℕ → List Event
tried_at w s = event.Controller (of_controller.Heard s) ∷ event.Switch (of_switch.Reply s) ∷
    (applies_from s 0 (pending_at (slice_get w.fleet.wired s)) ++ event.Switch (of_switch.Take s) ∷ event.Controller
    (of_controller.Send s) ∷ [])

-- at n switches from a place on
abbrev pub tried_from : WorldValue → ℕ → ℕ → List Event
tried_from w s zero = []
tried_from w s (suc n) = tried_at w s ++ tried_from w (s + 1) n

-- the first of the packets that are left comes in
abbrev pub arrival : List PacketLine → List Event
arrival [] = []
arrival (line ∷ lines) = event.Packet (of_packet.Arrive line.packet line.tag) ∷ []

-- the stamp of which the report is waited for, unless the updates have halted
abbrev pub due_of : Option Cause → Option Rows → Option ℕ
due_of None known = option_map (λ r. r.stamp) known
due_of (Some cause) known = None

abbrev pub due : Control → Option ℕ
due c = due_of c.halt (leaving c.overlap c.swept c.phase c.versions)

abbrev pub report : Option ℕ → List Event
report None = []
report (Some stamp) = event.Controller (of_controller.Drained stamp) ∷ []

-- an arrival, the beginning of an update, and the report that a stamp is drained
abbrev pub tried_last : List PacketLine → WorldValue → List Event
tried_last lines w = arrival lines ++ (event.Controller of_controller.Begin) ∷ report (due w.fleet.control)

-- all of them: the switches in their order, the copies in theirs, and these
abbrev pub tried : List PacketLine → WorldValue → List Event
tried lines w = tried_from w 0 (length w.topology.switches) ++ (hops_from 0 (length w.flights) ++ tried_last lines w)

-- ---- which of them can happen

-- of the events cs those that can happen are es, in the same order
abbrev pub AreEnabled : WorldValue → List Event → List Event → Type 0
AreEnabled w [] es = es ≡ []
AreEnabled w (c ∷ cs) es = (IsEnabled w c × (rest : List Event) × (es ≡ c ∷ rest) × AreEnabled w cs rest) ⊎
    (¬ (IsEnabled w c) × AreEnabled w cs es)

-- the next word draws this event: of those that can happen the one with the number that the word leaves when it is
-- divided by their count
pub record IsDrawn (lines : List PacketLine) (w : WorldValue) (g : Lcg) (e : Event) : Type 0 where
  pub events : List Event
  pub enabled : AreEnabled w (tried lines w) events
  pub drawn : slice_get events ((next_word g).0 % length events) ≡ Some e

-- ---- runs

-- the packets that are left after an event
abbrev pub left_by : Event → List PacketLine → List PacketLine
left_by (event.Packet (of_packet.Arrive pk tag)) lines = drop 1 lines
left_by e lines = lines

-- and after some
abbrev pub left_behind : List Event → List PacketLine → List PacketLine
left_behind [] lines = lines
left_behind (e ∷ es) lines = left_behind es (left_by e lines)

-- each event is drawn by the next word, and done
abbrev pub Drawn : List PacketLine → Lcg → WorldValue → List Event → WorldValue → Type 0
Drawn lines g w [] v = w ≡ v
Drawn lines g w (e ∷ es) v = (x : WorldValue) × IsDrawn lines w g e × Step w e x ×
    Drawn (left_by e lines) (next_word g).1 x es v

-- and they are drawn until none can happen
pub record Draws (lines : List PacketLine) (g : Lcg) (w : WorldValue) (events : List Event) (v : WorldValue) : Type 0
  where
    pub done : Drawn lines g w events v
    pub over : NoneIs v (tried (left_behind events lines) v)
