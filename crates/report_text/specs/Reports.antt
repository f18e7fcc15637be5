-- The texts of reports.
use Rattle.std.specs.Prelude.{◌≡◌, ℕ, ◌+◌, List, ◌++◌, codes}
use Rattle.std.specs.Fmt.{decimal}
use Rattle.std.specs.List.{flat_map}
use Rattle.topology_model.specs.declared.line.DeclaredSwitch.{DeclaredSwitch}
use Rattle.packet_tracer.specs.declared.flight.Flight.{Flight}
use Rattle.update_laws.specs.Traffic.{Arrived}
use Rattle.world_core.specs.declared.event.Event.{Event}
use Rattle.world_core.specs.Worlds.{WorldValue}
use Rattle.value_text.specs.Values.{line, location_text}
use Rattle.value_text.specs.Traces.{AreLinesOf, AreTexts}
use Rattle.report_text.specs.Events.{events_text}
use Rattle.report_text.specs.Causes.{control_text, entry_text}
use Rattle.report_text.specs.Copies.{arrival_copies}

-- the n-th arrival: where it came in, and the entry that it met
abbrev pub arrival_text : ℕ → Arrived → List ℕ
arrival_text n a = codes "arrival " ++
    (decimal n ++ (codes " at " ++ (location_text a.packet.sw a.packet.pt ++ (codes " " ++ entry_text a.entry))))

-- The n-th arrival with these lines of its copies in flight: its line, those of its finished histories, and then these.
pub record HasFate (still : List (List ℕ)) (n : ℕ) (a : Arrived) (text : List ℕ) : Type 0 where
  pub done : List (List ℕ)
  pub finished : AreLinesOf (codes "done ") a.finished done
  pub whole : text ≡ line (arrival_text n a) ++ (flat_map line done ++ flat_map line still)

-- The text of the n-th arrival, with the lines of its copies in flight, each once, in byte order. Copies count arrivals
-- from 0.
pub record IsArrivalText (flights : List Flight) (n : ℕ) (a : Arrived) (text : List ℕ) : Type 0 where
  pub place : ℕ
  pub number : n ≡ place + 1
  pub still : List (List ℕ)
  pub in_flight : AreLinesOf (codes "open ") (arrival_copies flights place) still
  pub fate : HasFate still n a text

-- The text of a report: the events, how far the updates are, and what became of each arrival.
pub record IsReportText (switches : List DeclaredSwitch) (events : List Event) (state : List ℕ) (flights : List Flight)
    (arrivals : List Arrived) (text : List ℕ) : Type 0 where
  pub fates : List ℕ
  pub each : AreTexts (IsArrivalText flights) 0 arrivals fates
  pub whole : text ≡ events_text switches events ++ (state ++ fates)

-- that of a world and the events that led to it
abbrev pub IsWorldReport : WorldValue → List Event → List ℕ → Type 0
IsWorldReport w events text =
    IsReportText w.topology.switches events (control_text w.fleet.control) w.flights w.arrivals text
