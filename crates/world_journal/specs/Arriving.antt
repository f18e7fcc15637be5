-- Which of the packets that are to come in have come in, and when a run is over.
use Rattle.std.specs.Prelude.{◌≡◌, ◌≢◌, ◌≤◌, ◌⊎◌, ℕ, ◌+◌, Bool, true, false, List, [], ◌∷◌, length, map, None, All}
use Rattle.std.specs.Prelude.{IsPermutation}
use Rattle.packet_tracer.specs.declared.flight.Flight.{Flight}
use Rattle.update_coordinator.specs.declared.phase.Phase.TheVariants as phase
use Rattle.update_coordinator.specs.Calls.{draining}
use Rattle.update_laws.specs.Traffic.{Arrived}
use Rattle.world_core.specs.declared.event.Event.{Event}
use Rattle.world_core.specs.declared.event.Event.TheVariants as event
use Rattle.world_core.specs.declared.event.PacketEvent.TheVariants as of_packet
use Rattle.world_core.specs.Worlds.{WorldValue}
use Rattle.world_journal.specs.declared.line.Line.{Line}

abbrev pub line_of : Arrived → Line
line_of a = record { packet = a.packet; tag = a.tag }

abbrev pub lines_of : List Arrived → List Line
lines_of arrivals = map line_of arrivals

abbrev pub is_arrival : Event → Bool
is_arrival (event.Packet (of_packet.Arrive pk tag)) = true
is_arrival _ = false

-- the lines that are marked
abbrev pub marked : List Line → List Bool → List Line
marked [] marks = []
marked (x ∷ xs) [] = []
marked (x ∷ xs) (true ∷ marks) = x ∷ marked xs marks
marked (x ∷ xs) (false ∷ marks) = marked xs marks

-- how many marks are not set
abbrev pub unmarked : List Bool → ℕ
unmarked [] = 0
unmarked (true ∷ marks) = unmarked marks
unmarked (false ∷ marks) = 1 + unmarked marks

-- What came in is the marked lines, each once.
pub record HaveArrived (lines : List Line) (marks : List Bool) (arrivals : List Arrived) : Type 0 where
  pub long : length marks ≡ length lines
  pub same : IsPermutation (lines_of arrivals) (marked lines marks)

-- the last policy handles all packets, and none before it drains
abbrev pub IsLast : WorldValue → Type 0
IsLast w = (w.fleet.control.phase ≡ phase.Idle (length w.versions)) × (draining w.fleet.control ≡ [])

-- no copy may take another hop
abbrev pub AreSpent : WorldValue → Type 0
AreSpent w = All (λ (f : Flight). w.limit ≤ f.hops) w.flights

-- there is no more to update: the updates have halted, or the last policy handles all packets and none before it drains
abbrev pub IsSettled : WorldValue → Type 0
IsSettled w = (w.fleet.control.halt ≢ None) ⊎ IsLast w

-- each line came in once
abbrev pub HaveAllCome : List Line → WorldValue → Type 0
HaveAllCome lines w = IsPermutation (lines_of w.arrivals) lines

-- A run is over if there is no more to update, each line came in once, and no copy may take another hop. After a halt
-- packets go on to their end.
pub record IsOver (lines : List Line) (w : WorldValue) : Type 0 where
  pub settled : IsSettled w
  pub came : HaveAllCome lines w
  pub spent : AreSpent w
