-- Where the ports of a switch stand among those of all switches.
use Rattle.std.specs.Prelude.{◌≡◌, ℕ, ◌+◌, List, [], ◌∷◌, ◌++◌, length}
use Rattle.std.specs.List.{flat_map}
use Rattle.history_meaning.specs.Network.{Location}
use Rattle.topology_model.specs.Layouts.{Layout, locations_at}
use Rattle.topology_model.specs.declared.line.DeclaredSwitch.{DeclaredSwitch}

-- how many ports come before those of each switch, where so many come before the first
abbrev pub firsts_of : ℕ → List DeclaredSwitch → List ℕ
firsts_of n [] = []
firsts_of n (s ∷ ss) = n ∷ firsts_of (n + length s.ports) ss

-- the ports of the switch stand after this many others, in declared order
pub record HasPortsBehind (t : Layout) (s : DeclaredSwitch) (n : ℕ) : Type 0 where
  pub front : List Location
  pub back : List Location
  pub parts : flat_map locations_at t.switches ≡ front ++ (locations_at s ++ back)
  pub before : length front ≡ n
