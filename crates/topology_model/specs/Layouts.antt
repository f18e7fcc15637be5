-- Topologies as clauses see them.
use Rattle.std.specs.Prelude.{ℕ, Bool, ◌==◌, ◌&&◌, List, [], ◌∷◌, map, filter, position, Option, Some, None, is_some}
use Rattle.std.specs.Prelude.{not, if◌then◌else◌}
use Rattle.std.specs.List.{flat_map, list_any}
use Rattle.history_meaning.specs.Network.{Location, Wiring}
use Rattle.topology_model.specs.declared.line.DeclaredSwitch.{DeclaredSwitch}

-- The switches with their ports, in declared order, and the links, each in both directions.
pub record Layout : Type 0 where
  pub switches : List DeclaredSwitch
  pub links : List (Location × Location)

abbrev pub empty : Layout
empty = record { switches = []; links = [] }

-- a pair of numbers as a port of a switch
abbrev pub location_of : ℕ × ℕ → Location
location_of e = record { sw = e.0; pt = e.1 }

-- both directions of a link
abbrev pub both_ways : (ℕ × ℕ) × (ℕ × ℕ) → List (Location × Location)
both_ways l = (location_of l.0, location_of l.1) ∷ (location_of l.1, location_of l.0) ∷ []

-- where a switch stands among the switches
abbrev pub place_in : List DeclaredSwitch → ℕ → Option ℕ
place_in sites sw = position (λ s. s.sw == sw) sites

-- the switch is declared
abbrev pub has_switch : List DeclaredSwitch → ℕ → Bool
has_switch sites sw = list_any (λ s. s.sw == sw) sites

-- the port is declared
abbrev pub has_port : List DeclaredSwitch → Location → Bool
has_port sites a = list_any (λ s. s.sw == a.sw && list_any (λ n. n == a.pt) s.ports) sites

abbrev pub same_location : Location → Location → Bool
same_location a b = a.sw == b.sw && a.pt == b.pt

-- the other end of the link that begins at a port, if there is one
abbrev pub far_end : List (Location × Location) → Location → Option Location
far_end [] a = None
far_end (l ∷ ls) a = if same_location l.0 a then Some l.1 else far_end ls a

-- some link has the port; the port is declared and none has it
abbrev pub is_linked : Layout → Location → Bool
is_linked t a = is_some (far_end t.links a)

abbrev pub is_edge : Layout → Location → Bool
is_edge t a = has_port t.switches a && not (is_linked t a)

-- the ports of a switch as places
abbrev pub locations_at : DeclaredSwitch → List Location
locations_at s = map (λ n. location_of (s.sw, n)) s.ports

-- the declared ports that no link has, in declared order
abbrev pub edges_of : Layout → List Location
edges_of t = filter (λ a. not (is_linked t a)) (flat_map locations_at t.switches)

-- links and edge ports, over which the terms of a network are defined
abbrev pub wiring : Layout → Wiring
wiring t = record { links = t.links; edges = edges_of t }
