-- Copies that leave by one port and set no header field that their path leaves open, and their actions.
use Rattle.std.specs.Prelude.{◌≡◌, ◌⊎◌, ℕ, true, List, [], ◌∷◌, ◌++◌, Some}
use Rattle.nk_values.specs.declared.action.Action.{Action}
use Rattle.nk_values.specs.declared.action.Action.TheVariants.{Output}
use Rattle.nk_values.specs.declared.field.Field.TheVariants.{Pt}
use Rattle.nk_values.specs.declared.lit.Lit.{Lit}
use Rattle.nk_values.specs.declared.packet.Packet.{Packet}
use Rattle.nk_values.specs.declared.rows.PortKind.{PortKind}
use Rattle.nk_values.specs.Lits.{lit_field}
use Rattle.fdd_nodes.specs.Cells.{IsUnset}
use Rattle.fdd_nodes.specs.Trees.{apply}
use Rattle.leaf_actions.specs.declared.view.PortView.{PortView}
use Rattle.leaf_actions.specs.declared.view.SwitchPort.{SwitchPort}
use Rattle.leaf_actions.specs.Chains.{keeps}
use Rattle.leaf_actions.specs.Listing.{changed, retagged, port_number}
use Rattle.leaf_actions.specs.Routes.{out_of}
use Rattle.leaf_actions.specs.Settable.{settable}
use Rattle.leaf_actions.specs.Views.{port_in}

-- the copy sets the port alone, and fields that the cell x fixes
abbrev pub Stays : Packet → List Lit → Type 0
Stays x [] = Unit {0}
Stays x (l ∷ c) = ((lit_field l ≡ Pt) ⊎ ¬ IsUnset x (lit_field l)) × Stays x c

-- so do all copies, and they leave at the port n
abbrev pub AllStay : PortView → Packet → ℕ → List (List Lit) → Type 0
AllStay v x n [] = Unit {0}
AllStay v x n (c ∷ cs) = (out_of v c ≡ n) × Stays x c × AllStay v x n cs

-- the port at which they leave is declared
pub record StayAt (v : PortView) (x : Packet) (p : SwitchPort) (cs : List (List Lit)) : Type 0 where
  pub out : ℕ
  pub found : port_in v.ports out ≡ Some p
  pub all : AllStay v x out cs

-- each copy fixes the header fields that the one before it fixes; y is the first of them
abbrev pub AllClimb : Packet → Packet → List (List Lit) → Type 0
AllClimb x y [] = Unit {0}
AllClimb x y (c ∷ cs) = (keeps y (apply c x) ≡ true) × AllClimb x (apply c x) cs

-- the actions of such copies one after another, where y is what the header is known to be and k the kind of port whose
-- tag it has
abbrev pub stayed : PortView → Packet → Packet → PortKind → SwitchPort → List (List Lit) → List Action
stayed v x y k p [] = []
stayed v x y k p (c ∷ cs) =
    changed y (apply c x) settable ++
    (retagged v.stamp k p.kind ++ Output (port_number v p.pt) ∷ stayed v x (apply c x) p.kind p cs)
