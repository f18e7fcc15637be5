-- How many events can happen, and which of them has a number.
use Rattle.std.specs.Prelude.{◌≡◌, ℕ, ◌+◌, ◌*◌, ◌-◌, ◌^◌, ◌≤◌, min, List, [], ◌∷◌, length, take, drop, Option, Some}
use Rattle.std.specs.Prelude.{slice_get}
use Rattle.document_text.specs.declared.document.PacketLine.{PacketLine}
use Rattle.world_core.specs.declared.event.Event.{Event}
use Rattle.world_core.specs.declared.event.Event.TheVariants as event
use Rattle.world_core.specs.declared.event.ControllerEvent.TheVariants as of_controller
use Rattle.world_core.specs.Settling.{hops_from}
use Rattle.world_core.specs.Worlds.{WorldValue}
use Rattle.workload_gen.specs.Draws.{AreEnabled, tried_at, tried_last}

-- So many of these events can happen. The count stops at the greatest number of 64 bits.
pub record IsCount (w : WorldValue) (cs : List Event) (n : ℕ) : Type 0 where
  pub events : List Event
  pub enabled : AreEnabled w cs events
  pub count : n ≡ min (length events) (2 ^ 64 - 1)

-- a count for each switch
pub record AreCounts (w : WorldValue) (counts : List ℕ) : Type 0 where
  pub all : length counts ≡ length w.topology.switches
  pub each : (place n : ℕ) → slice_get counts place ≡ Some n → IsCount w (tried_at w place) n

-- the hops of copies are counted, and the events that are tried last
pub record AreOthers (w : WorldValue) (lines : List PacketLine) (hops last : ℕ) : Type 0 where
  pub of_hops : IsCount w (hops_from 0 (length w.flights)) hops
  pub of_last : IsCount w (tried_last lines w) last

-- the event changes one switch, its channels and what the coordinator has sent to it
abbrev pub ChangesOneSwitch : Event → Type 0
ChangesOneSwitch (event.Switch act) = Unit {0}
ChangesOneSwitch (event.Controller (of_controller.Send s)) = Unit {0}
ChangesOneSwitch _ = ⊥

abbrev pub sum_of : List ℕ → ℕ
sum_of [] = 0
sum_of (n ∷ ns) = n + sum_of ns

-- their sum, which stops at that number too
abbrev pub sum_to_limit : List ℕ → ℕ
sum_to_limit counts = min (sum_of counts) (2 ^ 64 - 1)

-- the sums of the first blocks of eight of these numbers
pub record AreBlocks (numbers blocks : List ℕ) : Type 0 where
  pub fits : 8 * length blocks ≤ length numbers
  pub each : (k n : ℕ) → slice_get blocks k ≡ Some n → n ≡ sum_to_limit (take 8 (drop (8 * k) numbers))

-- of these events the one with a number, from 0, among those that can happen
abbrev pub Finds : WorldValue → List Event → ℕ → Option Event → Type 0
Finds w cs n found = (es : List Event) → AreEnabled w cs es → found ≡ slice_get es n
