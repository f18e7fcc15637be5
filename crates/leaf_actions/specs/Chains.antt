-- Copies each of which changes all that the one before it changes.
use Rattle.std.specs.Prelude.{◌≡◌, Bool, true, ◌&&◌, not, List, [], ◌∷◌}
use Rattle.nk_values.specs.declared.field.Field.{Field}
use Rattle.nk_values.specs.declared.packet.Packet.{Packet}
use Rattle.fdd_nodes.specs.Cells.{is_unset}
use Rattle.fdd_nodes.specs.Trees.{apply}
use Rattle.leaf_actions.specs.declared.route.Route.{Route}
use Rattle.leaf_actions.specs.Settable.{settable}

-- the field is fixed in x, and open in y
abbrev pub loses : Packet → Packet → Field → Bool
loses x y f = not (is_unset x f) && is_unset y f

-- none of the fields is lost from x to y
abbrev pub keeps_fields : Packet → Packet → List Field → Bool
keeps_fields x y [] = true
keeps_fields x y (f ∷ fs) = not (loses x y f) && keeps_fields x y fs

abbrev pub keeps : Packet → Packet → Bool
keeps x y = keeps_fields x y settable

-- Of the cell x, each copy fixes the header fields that the one before it fixes; y is the first of them.
abbrev pub Climbs : Packet → Packet → List Route → Type 0
Climbs x y [] = Unit {0}
Climbs x y (r ∷ rs) = (keeps y (apply r.copy x) ≡ true) × Climbs x (apply r.copy x) rs
