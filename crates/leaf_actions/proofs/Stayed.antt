-- Copies that stay: they are in order, they climb, and their actions are those of their routes.
use Rattle.std.proofs.Common.{◌≡◌, ◌≢◌, ◌+◌, ◌<◌, ℕ, zero, suc, inl, inr, refl, ap, sym, ◌∙◌, subst, arith, Bool, true, false, ◌==◌, List, [], ◌∷◌, ◌++◌, length, get_or, Option, Some, add-one, Less, Greater}
use Rattle.std.specs.Prelude.{◌&&◌, not}
use Rattle.std.specs.Cmp.{nat_cmp_total}
use Rattle.std.specs.Cmp.Lexicographic.{lists_total}
use Rattle.std.specs.List.Sorted.{IsSorted, IsStrictlySortedBy}
use Rattle.std.specs.Ordering.{is_lt, ordering_then, ordering_reverse, nat_cmp}
use Rattle.std.proofs.lemmas.Bool.{eqb-true, eq-eqb}
use Rattle.std.proofs.lemmas.List.Sorted.{IsPermutation-refl}
use Rattle.nk_values.specs.declared.action.Action.{Action}
use Rattle.nk_values.specs.declared.action.Action.TheVariants.{Output}
use Rattle.nk_values.specs.declared.field.Field.{Field}
use Rattle.nk_values.specs.declared.lit.Lit.{Lit}
use Rattle.nk_values.specs.declared.packet.Packet.{Packet}
use Rattle.nk_values.specs.declared.rows.PortKind.{PortKind}
use Rattle.nk_values.specs.contracts.lit.LitOrd.TheImpl.Laws.{total-law}
use Rattle.nk_values.specs.Held.{put}
use Rattle.nk_values.specs.Lits.{lit_field, lit_value}
use Rattle.nk_values.specs.Members.{IsIn}
use Rattle.nk_values.specs.Packets.{get}
use Rattle.nk_values.proofs.PacketLaws.{get-with_other}
use Rattle.fdd_nodes.specs.Cells.{unset}
use Rattle.fdd_nodes.specs.Copies.{copy_cmp}
use Rattle.fdd_nodes.specs.Trees.{apply}
use Rattle.leaf_actions.specs.declared.route.Route.{Route}
use Rattle.leaf_actions.specs.declared.view.PortView.{PortView}
use Rattle.leaf_actions.specs.declared.view.SwitchPort.{SwitchPort}
use Rattle.leaf_actions.specs.Chains.{Climbs}
use Rattle.leaf_actions.specs.Changes.{changes, change_count}
use Rattle.leaf_actions.specs.Listing.{changed, retagged, port_number, listed}
use Rattle.leaf_actions.specs.Routes.{route_by, routes_of, route_cmp}
use Rattle.leaf_actions.specs.Settable.{settable}
use Rattle.leaf_actions.specs.Staying.{AllClimb, AllStay, StayAt, Stays, stayed}
use Rattle.leaf_actions.specs.Views.{port_in}
use Rattle.leaf_actions.proofs.ActionLists.{Ready}
use Rattle.leaf_actions.proofs.Chained.{of_keeps}
use Rattle.leaf_actions.proofs.Fixed.{fixed_apply}
use Rattle.leaf_actions.proofs.Moved.{not_pt, count_none}
use Rattle.leaf_actions.proofs.Unique.{own}

-- what stays by a cell stays by the cell with a literal
stays_put : (l : Lit) (c : List Lit) (x : Packet) → Stays x c → Stays (put l x) c
stays_put l [] x s = tt
stays_put l (m ∷ c) x (inl e, s) = (inl e, stays_put l c x s)
stays_put l (m ∷ c) x (inr n, s) = (inr (fixed_apply (l ∷ []) x (lit_field m) n), stays_put l c x s)

-- such a copy sets no header field that is open
other_field : (l : Lit) (c : List Lit) (x : Packet) (f : Field) → Stays x (l ∷ c) → IsIn settable f → get x f ≡ unset → lit_field l ≢ f
other_field l c x f (inl p, s) i o e = not_pt f i (sym e ∙ p)
other_field l c x f (inr n, s) i o e = n (ap (get x) e ∙ o)

open_stays : (c : List Lit) (x : Packet) (f : Field) → Stays x c → IsIn settable f → get x f ≡ unset → get (apply c x) f ≡ unset
open_stays [] x f s i o = o
open_stays (l ∷ c) x f s i o =
    open_stays c (put l x) f (stays_put l c x s.1) i (get-with_other x (lit_field l) f (lit_value l) (other_field l c x f s i o) ∙ o)

-- so it counts nothing
unchanged : (m n : ℕ) → (m ≡ unset → n ≡ unset) → (m == unset) && not (n == unset) ≡ false
unchanged m n h = split (m == unset) refl
  where
    split : (b : Bool) → (m == unset) ≡ b → (m == unset) && not (n == unset) ≡ false
    split true e = rw (e, eq-eqb _ _ (h (eqb-true _ _ e))) refl
    split false e = rw e refl

no_count : (x : Packet) (c : List Lit) → Stays x c → change_count x c ≡ 0
no_count x c s = count_none (changes x c) settable (λ f i. unchanged (get x f) (get (apply c x) f) (open_stays c x f s i))

-- the routes of such copies
abbrev routes_at : Packet → SwitchPort → List (List Lit) → List Route
routes_at x p [] = []
routes_at x p (c ∷ cs) = record { count = change_count x c; port = p.pt; kind = p.kind; copy = c } ∷ routes_at x p cs

routes_are : (v : PortView) (x : Packet) (p : SwitchPort) (n : ℕ) (cs : List (List Lit)) → port_in v.ports n ≡ Some p → AllStay v x n cs → routes_of v x cs ≡ routes_at x p cs
routes_are v x p n [] f s = refl
routes_are v x p n (c ∷ cs) f s =
    ap (λ (o : Option SwitchPort). route_by x c o ++ routes_of v x cs) (ap (port_in v.ports) s.0 ∙ f) ∙
    ap (λ (rs : List Route). record { count = change_count x c; port = p.pt; kind = p.kind; copy = c } ∷ rs) (routes_are v x p n cs f s.2)

-- copies in rising order give routes in order
turned : (a b : List Lit) → copy_cmp a b ≡ Less → copy_cmp b a ≡ Greater
turned a b h = (lists_total total-law).antisymm b a ∙ ap ordering_reverse h

in_order : (p : SwitchPort) (m n : ℕ) (a b : List Lit) → m ≡ 0 → n ≡ 0 → copy_cmp a b ≡ Less →
    is_lt (ordering_then (nat_cmp n m) (ordering_then (nat_cmp p.pt p.pt) (copy_cmp b a))) ≡ false
in_order p m n a b e d h = rw (e, d, own nat_cmp nat_cmp_total p.pt, turned a b h) refl

rising : (v : PortView) (x : Packet) (p : SwitchPort) (n : ℕ) (cs : List (List Lit)) → AllStay v x n cs → IsStrictlySortedBy copy_cmp cs → (k : ℕ) (d : Route) → k + 1 < length (routes_at x p cs) →
    is_lt (route_cmp (get_or (routes_at x p cs) (k + 1) d) (get_or (routes_at x p cs) k d)) ≡ false
unfolding IsStrictlySortedBy
rising v x p n [] s r k d i = absurd (omega (arith, i))
rising v x p n (a ∷ []) s r k d i = absurd (omega (arith, i))
rising v x p n (a ∷ b ∷ cs) s r zero d i = in_order p (change_count x a) (change_count x b) a b (no_count x a s.1) (no_count x b s.2.1) r.0.0
rising v x p n (a ∷ b ∷ cs) s r (suc k) d i =
    let rs = routes_at x p (b ∷ cs) in
    subst (λ (m : ℕ). is_lt (route_cmp (get_or (routes_at x p (a ∷ b ∷ cs)) m d) (get_or rs k d)) ≡ false) (sym (add-one (suc k)))
    (subst (λ (m : ℕ). is_lt (route_cmp (get_or rs m d) (get_or rs k d)) ≡ false) (add-one k) (rising v x p n (b ∷ cs) s.2 r.1 k d (omega (arith, i))))

-- they climb
climb_from : (v : PortView) (x y : Packet) (n : ℕ) (cs : List (List Lit)) → ((f : Field) → IsIn settable f → get y f ≢ unset → get x f ≢ unset) → AllStay v x n cs → AllClimb x y cs
climb_from v x y n [] h s = tt
climb_from v x y n (c ∷ cs) h s = (
  of_keeps y (apply c x) (record { each = λ f i m. fixed_apply c x f (h f i m) }),
  climb_from v x (apply c x) n cs (λ f i m o. m (open_stays c x f s.1 i o)) s.2,
)

pub all_climb : (v : PortView) (x : Packet) (p : SwitchPort) (cs : List (List Lit)) → StayAt v x p cs → AllClimb x x cs
all_climb v x p cs s = climb_from v x x s.out cs (λ f i m. m) s.all

climbs_at : (x y : Packet) (p : SwitchPort) (cs : List (List Lit)) → AllClimb x y cs → Climbs x y (routes_at x p cs)
climbs_at x y p [] h = tt
climbs_at x y p (c ∷ cs) h = (h.0, climbs_at x (apply c x) p cs h.1)

listed_at : (v : PortView) (x y : Packet) (k : PortKind) (p : SwitchPort) (cs : List (List Lit)) → stayed v x y k p cs ≡ listed v x y k (routes_at x p cs)
listed_at v x y k p [] = refl
listed_at v x y k p (c ∷ cs) =
    ap (λ (l : List Action). changed y (apply c x) settable ++ (retagged v.stamp k p.kind ++ Output (port_number v p.pt) ∷ l)) (listed_at v x (apply c x) p.kind p cs)

pub stay_ready : (x : Packet) (v : PortView) (p : SwitchPort) (cs ds : List (List Lit)) (as' : List Action) → ds ≡ cs → IsStrictlySortedBy copy_cmp cs → StayAt v x p ds → as' ≡ stayed v x x v.kind p ds → Ready x v cs as'
stay_ready x v p cs ds as' ed r t e =
    let s : StayAt v x p cs = subst (λ (es : List (List Lit)). StayAt v x p es) ed t in
    let d = sym (routes_are v x p s.out cs s.found s.all) in
    record {
      routes = routes_of v x cs;
      listing = record { all = IsPermutation-refl (routes_of v x cs); sorted = subst (λ (rs : List Route). IsSorted route_cmp rs) d (λ k w h i. rising v x p s.out cs s.all r k w i) };
      climbs = subst (λ (rs : List Route). Climbs x x rs) d (climbs_at x x p cs (all_climb v x p cs s));
      actions = e ∙ ap (stayed v x x v.kind p) ed ∙ listed_at v x x v.kind p cs ∙ ap (λ (rs : List Route). listed v x x v.kind rs) d;
    }
