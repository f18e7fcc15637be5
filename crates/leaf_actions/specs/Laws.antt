-- Laws of lists of copies.
use Rattle.std.specs.Prelude.{◌≡◌, ◌↔◌, List, None}
use Rattle.nk_values.specs.declared.action.Action.{Action}
use Rattle.nk_values.specs.declared.lit.Lit.{Lit}
use Rattle.nk_values.specs.declared.packet.Packet.{Packet}
use Rattle.leaf_actions.specs.declared.fault.ActionsFault.{ActionsFault}
use Rattle.leaf_actions.specs.declared.route.Route.{Route}
use Rattle.leaf_actions.specs.declared.view.PortView.{PortView}
use Rattle.leaf_actions.specs.Listing.{IsChain, first_apart, IsActionList, IsUnordered}
use Rattle.leaf_actions.specs.Routes.{IsListing}

-- copies in the order of listing form a chain exactly where none is apart from a later one
abbrev pub ChainsHaveNoFirstPair : Type 0
ChainsHaveNoFirstPair = (v : PortView) (x : Packet) (cs : List (List Lit)) (rs : List Route) → IsListing v x cs rs →
    IsChain x rs ↔ (first_apart x rs ≡ None)

-- copies with a list of actions have no first pair that is apart
abbrev pub ListsExcludeFaults : Type 0
ListsExcludeFaults = (x : Packet) (v : PortView) (cs : List (List Lit)) (as' : List Action) (u : ActionsFault) →
    IsActionList x v cs as' → ¬ IsUnordered x v cs u

-- copies have one list of actions at most
abbrev pub ListsAreOne : Type 0
ListsAreOne = (x : Packet) (v : PortView) (cs : List (List Lit)) (as' bs : List Action) → IsActionList x v cs as' →
    IsActionList x v cs bs → as' ≡ bs
