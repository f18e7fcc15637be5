-- What holds of every topology.
use Rattle.std.specs.Prelude.{◌≡◌, ◌≢◌, ℕ, ◌≤◌, [], length, map}
use Rattle.nk_values.specs.declared.field.Field.TheVariants.{Sw, Pt}
use Rattle.nk_values.specs.Members.{IsIn, EachOnce}
use Rattle.nk_values.specs.Ranges.{IsValue}
use Rattle.history_meaning.specs.Network.{Location, Wiring}
use Rattle.topology_model.specs.Layouts.{Layout, edges_of}
use Rattle.topology_model.specs.declared.line.DeclaredSwitch.{DeclaredSwitch}

-- a switch with at most 256 ports, no two with one number
pub record IsSite (s : DeclaredSwitch) : Type 0 where
  pub switch : IsValue Sw s.sw
  pub ports : (n : ℕ) → IsIn s.ports n → IsValue Pt n
  pub differ : EachOnce s.ports
  pub few : length s.ports ≤ 256

-- the port is declared
pub record IsDeclared (t : Layout) (a : Location) : Type 0 where
  pub site : DeclaredSwitch
  pub among : IsIn t.switches site
  pub switch : site.sw ≡ a.sw
  pub port : IsIn site.ports a.pt

-- At most 256 switches, no two with one number; links between declared ports, in both directions, at most one a port
-- and none from a port to itself.
pub record IsSound (t : Layout) : Type 0 where
  pub sites : (s : DeclaredSwitch) → IsIn t.switches s → IsSite s
  pub differ : EachOnce (map (λ s. s.sw) t.switches)
  pub few : length t.switches ≤ 256
  pub declared : (a b : Location) → IsIn t.links (a, b) → IsDeclared t a
  pub both : (a b : Location) → IsIn t.links (a, b) → IsIn t.links (b, a)
  pub one : (a b c : Location) → IsIn t.links (a, b) → IsIn t.links (a, c) → b ≡ c
  pub apart : (a : Location) → ¬ (IsIn t.links (a, a))

-- A port has at most one link, and none if it is an edge port; links go both ways; all have the numbers of packets.
pub record IsWiring (w : Wiring) : Type 0 where
  pub one : (a b c : Location) → IsIn w.links (a, b) → IsIn w.links (a, c) → b ≡ c
  pub both : (a b : Location) → IsIn w.links (a, b) → IsIn w.links (b, a)
  pub apart : (a b : Location) → IsIn w.edges a → IsIn w.links (a, b) → ⊥
  pub link_range : (a b : Location) → IsIn w.links (a, b) → IsValue Sw a.sw × IsValue Pt a.pt
  pub edge_range : (a : Location) → IsIn w.edges a → IsValue Sw a.sw × IsValue Pt a.pt

-- with an edge port
pub record IsTopology (t : Layout) : Type 0 where
  pub sound : IsSound t
  pub edge : edges_of t ≢ []
