-- A copy that is alone in its leaf.
use Rattle.std.proofs.Common.{◌≡◌, ◌≤◌, ◌<◌, ap, sym, subst, arith, length, get_or, List, [], ◌∷◌, ◌++◌, Option, Some, None}
use Rattle.std.specs.List.Sorted.{IsSorted}
use Rattle.std.proofs.lemmas.List.Sorted.{IsPermutation-refl}
use Rattle.std.specs.Prelude.{true}
use Rattle.nk_values.specs.declared.action.Action.{Action}
use Rattle.nk_values.specs.declared.lit.Lit.{Lit}
use Rattle.nk_values.specs.declared.packet.Packet.{Packet}
use Rattle.fdd_nodes.specs.Trees.{apply}
use Rattle.leaf_actions.specs.declared.view.PortView.{PortView}
use Rattle.leaf_actions.specs.declared.view.SwitchPort.{SwitchPort}
use Rattle.leaf_actions.specs.Chains.{keeps, Climbs}
use Rattle.leaf_actions.specs.Listing.{listed}
use Rattle.leaf_actions.specs.Routes.{out_of, route_by, routes_of, route_cmp}
use Rattle.leaf_actions.specs.Views.{port_in}
use Rattle.leaf_actions.proofs.ActionLists.{Ready}
use Rattle.leaf_actions.proofs.Chained.{of_keeps}
use Rattle.leaf_actions.proofs.Fixed.{fixed_apply}

-- a copy keeps what is fixed
pub kept : (c : List Lit) (x : Packet) → keeps x (apply c x) ≡ true
kept c x = of_keeps x (apply c x) (record { each = λ f k n. fixed_apply c x f n })

sorted : (x : Packet) (c : List Lit) (o : Option SwitchPort) → IsSorted route_cmp (route_by x c o ++ [])
sorted x c None = λ k d h i. absurd (omega (arith, i))
sorted x c (Some p) = λ k d h i. absurd (omega (arith, i))

climbs : (x : Packet) (c : List Lit) (o : Option SwitchPort) → Climbs x x (route_by x c o ++ [])
climbs x c None = tt
climbs x c (Some p) = (kept c x, tt)

pub alone : (x : Packet) (v : PortView) (c : List Lit) (cs : List (List Lit)) (as' : List Action) → cs ≡ c ∷ [] → as' ≡ listed v x x v.kind (routes_of v x (c ∷ [])) → Ready x v cs as'
alone x v c cs as' one e =
    let port = port_in v.ports (out_of v c) in
    subst (λ (ds : List (List Lit)). Ready x v ds as') (sym one)
    (record {
      routes = routes_of v x (c ∷ []);
      listing = record { all = IsPermutation-refl (routes_of v x (c ∷ [])); sorted = sorted x c port };
      climbs = climbs x c port;
      actions = e;
    })

-- a list of one element
pub only : {X : Type 0} (xs : List X) (x y : X) → 1 ≤ length xs → length xs < 2 → x ≡ get_or xs 0 y → xs ≡ x ∷ []
only [] x y low high e = absurd (omega (arith, low))
only (z ∷ []) x y low high e = ap (λ w. w ∷ []) (sym e)
only (z ∷ w ∷ zs) x y low high e = absurd (omega (arith, high))
