-- Copies that set no header field, and their actions.
use Rattle.std.specs.Prelude.{◌≡◌, List, [], ◌∷◌, ◌++◌}
use Rattle.nk_values.specs.declared.action.Action.{Action}
use Rattle.nk_values.specs.declared.action.Action.TheVariants.{Output}
use Rattle.nk_values.specs.declared.field.Field.TheVariants.{Pt}
use Rattle.nk_values.specs.declared.lit.Lit.{Lit}
use Rattle.nk_values.specs.declared.rows.PortKind.{PortKind}
use Rattle.nk_values.specs.Lits.{lit_field}
use Rattle.leaf_actions.specs.declared.route.Route.{Route}
use Rattle.leaf_actions.specs.declared.view.PortView.{PortView}
use Rattle.leaf_actions.specs.Listing.{retagged, port_number}

-- the copy sets the port alone, or nothing
abbrev pub Moves : List Lit → Type 0
Moves [] = Unit {0}
Moves (l ∷ c) = (lit_field l ≡ Pt) × Moves c

abbrev pub AllMove : List (List Lit) → Type 0
AllMove [] = Unit {0}
AllMove (c ∷ cs) = Moves c × AllMove cs

-- the actions of such copies one after another, where k is the kind of port whose tag the header has
abbrev pub moved : PortView → PortKind → List Route → List Action
moved v k [] = []
moved v k (r ∷ rs) = retagged v.stamp k r.kind ++ Output (port_number v r.port) ∷ moved v r.kind rs
