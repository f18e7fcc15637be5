-- The actions of copies that can be listed, and the copies that bar a listing.
use Rattle.std.specs.Prelude.{◌≡◌, ◌⊎◌, ℕ, ◌==◌, List, [], ◌∷◌, ◌++◌, Option, Some, None, if◌then◌else◌}
use Rattle.nk_values.specs.declared.action.Action.{Action}
use Rattle.nk_values.specs.declared.action.Action.TheVariants.{Output, SetVlanVid, StripVlan, SetDlSrc, SetDlDst}
use Rattle.nk_values.specs.declared.action.Action.TheVariants.{SetNwSrc, SetNwDst, SetTpSrc, SetTpDst}
use Rattle.nk_values.specs.declared.field.Field.{Field}
use Rattle.nk_values.specs.declared.field.Field.TheVariants.{EthDst, Ip4Src, Ip4Dst, TcpSrcPort, TcpDstPort}
use Rattle.nk_values.specs.declared.packet.Packet.{Packet}
use Rattle.nk_values.specs.declared.lit.Lit.{Lit}
use Rattle.nk_values.specs.declared.rows.PortKind.{PortKind}
use Rattle.nk_values.specs.declared.rows.PortKind.TheVariants.{Edge, Linked}
use Rattle.nk_values.specs.Members.{IsIn}
use Rattle.nk_values.specs.Packets.{get}
use Rattle.fdd_nodes.specs.Trees.{apply}
use Rattle.leaf_actions.specs.declared.fault.ActionsFault.{ActionsFault}
use Rattle.leaf_actions.specs.declared.fault.ActionsError.{ActionsError}
use Rattle.leaf_actions.specs.declared.fault.ActionsError.TheVariants as error
use Rattle.leaf_actions.specs.declared.route.Route.{Route}
use Rattle.leaf_actions.specs.declared.view.PortView.{PortView}
use Rattle.leaf_actions.specs.Changes.{Includes, first_beyond}
use Rattle.leaf_actions.specs.Routes.{IsListing}
use Rattle.leaf_actions.specs.Settable.{settable}

-- of any two of the copies, one changes all that the other changes
pub record IsChain (x : Packet) (rs : List Route) : Type 0 where
  pub ordered : (a b : Route) → IsIn rs a → IsIn rs b → Includes x a.copy b.copy ⊎ Includes x b.copy a.copy

-- two copies that each change a field which the other does not, each with its first such field
abbrev pub told_apart : Route → Route → Option Field → Option Field → Option ActionsFault
told_apart a b None g = None
told_apart a b (Some f) None = None
told_apart a b (Some f) (Some g) = Some (record { a = a; b = b; field_a = f; field_b = g })

abbrev pub apart : Packet → Route → Route → Option ActionsFault
apart x a b = told_apart a b (first_beyond x a.copy b.copy) (first_beyond x b.copy a.copy)

abbrev pub or_else : Option ActionsFault → Option ActionsFault → Option ActionsFault
or_else None o = o
or_else (Some u) o = Some u

-- the first of the copies that is apart from a
abbrev pub first_from : Packet → Route → List Route → Option ActionsFault
first_from x a [] = None
first_from x a (b ∷ rs) = or_else (apart x a b) (first_from x a rs)

-- the earliest copy that is apart from a later one, with the earliest of these
abbrev pub first_apart : Packet → List Route → Option ActionsFault
first_apart x [] = None
first_apart x (a ∷ rs) = or_else (first_from x a rs) (first_apart x rs)

-- the action that sets a header field
abbrev pub setting : Field → ℕ → Action
setting EthDst n = SetDlDst n
setting Ip4Src n = SetNwSrc n
setting Ip4Dst n = SetNwDst n
setting TcpSrcPort n = SetTpSrc n
setting TcpDstPort n = SetTpDst n
setting f n = SetDlSrc n

-- a field is set where its number is to become another
abbrev pub change : Field → ℕ → ℕ → List Action
change f m n = if m == n then [] else setting f n ∷ []

-- the fields of y, where they were those of x
abbrev pub changed : Packet → Packet → List Field → List Action
changed x y [] = []
changed x y (f ∷ fs) = change f (get x f) (get y f) ++ changed x y fs

-- the tag of a port of the second kind, where it was that of the first
abbrev pub retagged : ℕ → PortKind → PortKind → List Action
retagged stamp Edge Edge = []
retagged stamp Edge Linked = SetVlanVid stamp ∷ []
retagged stamp Linked Edge = StripVlan ∷ []
retagged stamp Linked Linked = []

-- the number by which a port is sent to: the packet's own port is 65528
abbrev pub port_number : PortView → ℕ → ℕ
port_number v n = if n == v.pt then 65528 else n

-- The actions of the copies one after another, where y is what the header is known to be and k the kind of port whose
-- tag it has: first the header, each field with the copy's own number, else what the path fixes, else the original one;
-- then the tag; then the output.
abbrev pub listed : PortView → Packet → Packet → PortKind → List Route → List Action
listed v x y k [] = []
listed v x y k (r ∷ rs) =
    changed y (apply r.copy x) settable ++
    (retagged v.stamp k r.kind ++ Output (port_number v r.port) ∷ listed v x (apply r.copy x) r.kind rs)

-- the actions of a leaf in the cell x: its copies form a chain, and are listed in order
pub record IsActionList (x : Packet) (v : PortView) (cs : List (List Lit)) (as' : List Action) : Type 0 where
  pub routes : List Route
  pub listing : IsListing v x cs routes
  pub chain : IsChain x routes
  pub actions : as' ≡ listed v x x v.kind routes

-- the first copies that are apart
pub record IsUnordered (x : Packet) (v : PortView) (cs : List (List Lit)) (u : ActionsFault) : Type 0 where
  pub routes : List Route
  pub listing : IsListing v x cs routes
  pub first : first_apart x routes ≡ Some u

-- nothing is said of memory
abbrev pub RefusesLeaf : Packet → PortView → List (List Lit) → ActionsError → Type 0
RefusesLeaf x v cs error.Memory = Unit {0}
RefusesLeaf x v cs (error.Fault u) = IsUnordered x v cs u
