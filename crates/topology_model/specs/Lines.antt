-- The topology of some lines, and the first fault in them.
use Rattle.std.specs.Prelude.{◌≡◌, ℕ, All, ◌<◌, Bool, false, ◌==◌, ◌&&◌, ◌||◌, not, nat_le, nat_lt, List, [], ◌∷◌, ◌++◌}
use Rattle.std.specs.Prelude.{length, take, slice_get, Option, Some, None, if◌then◌else◌}
use Rattle.std.specs.List.{flat_map, list_any}
use Rattle.nk_values.specs.declared.field.Field.TheVariants.{Sw, Pt}
use Rattle.nk_values.specs.Ranges.{IsValue}
use Rattle.history_meaning.specs.Network.{Location}
use Rattle.topology_model.specs.Layouts.{Layout, location_of, both_ways, has_switch, has_port, same_location, is_linked}
use Rattle.topology_model.specs.Layouts.{edges_of}
use Rattle.topology_model.specs.declared.line.DeclaredSwitch.{DeclaredSwitch}
use Rattle.topology_model.specs.declared.line.TopoLine.{TopoLine}
use Rattle.topology_model.specs.declared.line.TopoLine.TheVariants.{Switch, Link}
use Rattle.nk_values.specs.declared.text_fault.TextFault.{TextFault}
use Rattle.nk_values.specs.declared.text_fault.TextFault.TheVariants.{DupSwitch, UnknownSwitch, UnknownPort}
use Rattle.nk_values.specs.declared.text_fault.TextFault.TheVariants.{PortUsedTwice, TooMany, NoEdge}

-- the numbers of an end are a packet's
abbrev pub IsEnd : ℕ × ℕ → Type 0
IsEnd e = IsValue Sw e.0 × IsValue Pt e.1

-- each number of the line is a packet's
abbrev pub IsLineInRange : TopoLine → Type 0
IsLineInRange (Switch sw ports) = IsValue Sw sw × All (IsValue Pt) ports
IsLineInRange (Link a b) = IsEnd a × IsEnd b

-- what a line declares: a switch, or a link in both directions
abbrev pub sites_in : TopoLine → List DeclaredSwitch
sites_in (Switch sw ports) = record { sw = sw; ports = ports } ∷ []
sites_in (Link a b) = []

abbrev pub links_in : TopoLine → List (Location × Location)
links_in (Switch sw ports) = []
links_in (Link a b) = both_ways (a, b)

-- what lines declare
abbrev pub layout_of : List TopoLine → Layout
layout_of lines = record { switches = flat_map sites_in lines; links = flat_map links_in lines }

-- what is declared with one more line
abbrev pub with_line : Layout → TopoLine → Layout
with_line t l = record { switches = t.switches ++ sites_in l; links = t.links ++ links_in l }

-- some number comes twice
abbrev pub has_repeat : List ℕ → Bool
has_repeat [] = false
has_repeat (n ∷ ns) = list_any (λ m. m == n) ns || has_repeat ns

-- The fault of a line after those that declared this much; where it has several, the first of them in this order.
abbrev pub line_fault : Layout → TopoLine → Option TextFault
line_fault t (Switch sw ports) =
    if has_switch t.switches sw then Some DupSwitch
    else (if nat_le 256 (length t.switches) || nat_lt 256 (length ports) then Some TooMany
    else (if has_repeat ports then Some PortUsedTwice
    else None))
line_fault t (Link a b) =
    if not (has_switch t.switches a.0 && has_switch t.switches b.0) then Some UnknownSwitch
    else (if not (has_port t.switches (location_of a) && has_port t.switches (location_of b)) then Some UnknownPort
    else (if is_linked t (location_of a) || is_linked t (location_of b)
    || same_location (location_of a) (location_of b) then Some PortUsedTwice
    else None))

-- the fault at a place of the list: that of its line, and after the last line that there is no edge port
abbrev pub fault_from : Layout → Option TopoLine → Option TextFault
fault_from t (Some l) = line_fault t l
fault_from t None = no_edge (edges_of t)
  where
    no_edge : List Location → Option TextFault
    no_edge [] = Some NoEdge
    no_edge (a ∷ as') = None

abbrev pub fault_at : List TopoLine → ℕ → Option TextFault
fault_at lines k = fault_from (layout_of (take k lines)) (slice_get lines k)

-- no place is at fault
abbrev pub IsFaultless : List TopoLine → Type 0
IsFaultless lines = (k : ℕ) → fault_at lines k ≡ None

-- this fault is at this place, and none is before it
pub record IsFirstFault (lines : List TopoLine) (fault : TextFault) (place : ℕ) : Type 0 where
  pub here : fault_at lines place ≡ Some fault
  pub before : (k : ℕ) → k < place → fault_at lines k ≡ None
