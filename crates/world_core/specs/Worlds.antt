-- The world: what it has, how it starts, and what holds of it at each moment.
use Rattle.std.specs.Prelude.{◌≡◌, ◌≤◌, ℕ, List, [], ◌∷◌, map, slice_get, Option, Some}
use Rattle.nk_syntax.specs.declared.pol.Pol.{Pol}
use Rattle.nk_values.specs.declared.rows.Rows.{Rows}
use Rattle.nk_values.specs.Tables.{Distinct}
use Rattle.topology_model.specs.Layouts.{Layout}
use Rattle.topology_model.specs.Wired.{IsTopology}
use Rattle.topology_model.specs.declared.line.DeclaredSwitch.{DeclaredSwitch}
use Rattle.policy_rows.specs.declared.version.Version.{Version}
use Rattle.packet_tracer.specs.declared.flight.Flight.{Flight}
use Rattle.update_coordinator.specs.Controls.{Control}
use Rattle.update_coordinator.specs.Starts as starts
use Rattle.update_laws.specs.Updates.{Setting}
use Rattle.update_laws.specs.Settings.{AreVersions, setting_of}
use Rattle.update_laws.specs.Fleets.{WiredSwitch, Fleet, IsFleet}
use Rattle.update_laws.specs.Traffic.{Arrived, IsTraffic, AreApart}
use Rattle.world_core.specs.declared.settings.Settings.{Settings}
use Rattle.world_core.specs.Ends.{new_end}

-- The topology, the versions, the hop limit, the rows that a switch has room for, how many stamps go round if drains
-- overlap, the coordinator and the switches with their channels, the copies in flight and the packets that came in.
pub record WorldValue : Type 0 where
  pub topology : Layout
  pub versions : List Version
  pub limit : ℕ
  pub capacity : ℕ
  pub overlap : Option ℕ
  pub fleet : Fleet
  pub flights : List Flight
  pub arrivals : List Arrived

abbrev pub setting : WorldValue → Setting
setting w = setting_of w.topology w.versions w.limit w.capacity w.overlap

abbrev pub numbers_of : List DeclaredSwitch → List ℕ
numbers_of peers = map (λ s. s.sw) peers

abbrev pub pols_of : List Version → List Pol
pols_of versions = map (λ v. v.pol) versions

abbrev pub rows_of : List Version → List Rows
rows_of versions = map (λ v. v.rows) versions

-- policies, each with its rows
abbrev pub paired : List Pol → List Rows → List Version
paired [] rows = []
paired (p ∷ ps) [] = []
paired (p ∷ ps) (r ∷ rs) = record { pol = p; rows = r } ∷ paired ps rs

-- what clauses see of a world's fields: of each policy its rows are the coordinator's
abbrev pub world_of : Layout → List Pol → ℕ → ℕ → Option ℕ → Control → List WiredSwitch → List Flight → List Arrived
    → WorldValue
world_of t policies limit capacity overlap control wired flights arrivals = record {
  topology = t;
  versions = paired policies control.versions;
  limit = limit;
  capacity = capacity;
  overlap = overlap;
  fleet = record { control = control; wired = wired };
  flights = flights;
  arrivals = arrivals;
}

-- the world before anything has happened
abbrev pub initial_world : Layout → List Version → Settings → WorldValue
initial_world t versions settings = record {
  topology = t;
  versions = versions;
  limit = settings.hops;
  capacity = settings.capacity;
  overlap = settings.overlap;
  fleet = record {
    control = starts.initial_control (rows_of versions) (numbers_of t.switches) settings.rejoins settings.overlap;
    wired = map (new_end settings.capacity) (numbers_of t.switches);
  };
  flights = [];
  arrivals = [];
}

-- no two rows of a table have one pattern and priority
abbrev pub AreDistinct : List WiredSwitch → Type 0
AreDistinct wired = (place : ℕ) (e : WiredSwitch) → slice_get wired place ≡ Some e → Distinct e.switch.table.rows

-- What every world keeps: its versions stand for their policies, and the coordinator has their rows; the switches are
-- those of the topology, no two rows of a table have one key, each switch is where the phase has it, each packet is
-- handled by one policy of its entry, and its copies are apart.
pub record Keeps (w : WorldValue) : Type 0 where
  pub topology : IsTopology w.topology
  pub versions : AreVersions w.topology w.versions w.overlap
  pub limit : 1 ≤ w.limit
  pub places : map (λ (e : WiredSwitch). e.switch.sw) w.fleet.wired ≡ numbers_of w.topology.switches
  pub rows : w.fleet.control.versions ≡ rows_of w.versions
  pub distinct : AreDistinct w.fleet.wired
  pub fleet : IsFleet (setting w) w.fleet
  pub traffic : IsTraffic w.topology (setting w) w.fleet.control.swept w.fleet.control.phase w.flights w.arrivals
  pub apart : AreApart w.flights w.arrivals

-- shut to all proofs but those of its own laws
unfoldable pub IsKept : WorldValue → Type 0
IsKept w = Keeps w
