-- Copies by the ports at which they leave, and the order in which they are listed.
use Rattle.std.specs.Prelude.{ℕ, Bool, List, [], ◌∷◌, ◌++◌, Option, Some, None}
use Rattle.std.specs.declared.cmp.Ordering.{Ordering}
use Rattle.std.specs.List.Sorted.{IsPermutation, IsSorted}
use Rattle.std.specs.Ordering.{on, nat_cmp, then_cmp, eq_by_cmp}
use Rattle.nk_values.specs.declared.field.Field.TheVariants.{Pt}
use Rattle.nk_values.specs.declared.packet.Packet.{Packet}
use Rattle.nk_values.specs.declared.lit.Lit.{Lit}
use Rattle.nk_values.specs.Packets.{with_value}
use Rattle.fdd_nodes.specs.Cells.{whole_cell}
use Rattle.fdd_nodes.specs.Copies.{copy_cmp}
use Rattle.fdd_nodes.specs.Trees.{apply}
use Rattle.leaf_actions.specs.declared.route.Route.{Route}
use Rattle.leaf_actions.specs.declared.view.PortView.{PortView}
use Rattle.leaf_actions.specs.declared.view.SwitchPort.{SwitchPort}
use Rattle.leaf_actions.specs.Changes.{change_count}
use Rattle.leaf_actions.specs.Views.{port_in}

-- the port at which a copy of a packet at the view's port stands
abbrev pub out_of : PortView → List Lit → ℕ
out_of v c = (apply c (with_value whole_cell Pt v.pt)).pt

abbrev pub route_by : Packet → List Lit → Option SwitchPort → List Route
route_by x c None = []
route_by x c (Some p) = record { count = change_count x c; port = p.pt; kind = p.kind; copy = c } ∷ []

-- the copies that leave by declared ports, where x is what the path fixes
abbrev pub routes_of : PortView → Packet → List (List Lit) → List Route
routes_of v x [] = []
routes_of v x (c ∷ cs) = route_by x c (port_in v.ports (out_of v c)) ++ routes_of v x cs

-- the order of listing: by the number of changed fields, then the out port, then the assignments
abbrev pub route_cmp : Route → Route → Ordering
route_cmp = then_cmp (on (λ r. r.count) nat_cmp) (then_cmp (on (λ r. r.port) nat_cmp) (on (λ r. r.copy) copy_cmp))

abbrev pub route_eq : Route → Route → Bool
route_eq = eq_by_cmp route_cmp

-- the copies that leave by declared ports, in the order of listing
pub record IsListing (v : PortView) (x : Packet) (cs : List (List Lit)) (rs : List Route) : Type 0 where
  pub all : IsPermutation (routes_of v x cs) rs
  pub sorted : IsSorted route_cmp rs
