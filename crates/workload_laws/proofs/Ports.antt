-- Copies that assign ports alone: they are in order, and their actions are few.
use Rattle.std.proofs.Common.{◌≡◌, ℕ, ◌+◌, ◌*◌, ◌≤◌, inl, inr, refl, ap, sym, ◌∙◌, subst, arith, cond, Bool, true, false, ◌==◌, ◌&&◌, not, List, [], ◌∷◌, ◌++◌, length, Option, Some, None}
use Rattle.std.proofs.lemmas.Bool.{eq-eqb}
use Rattle.std.proofs.lemmas.List.{length-append}
use Rattle.nk_values.specs.declared.action.Action.{Action}
use Rattle.nk_values.specs.declared.action.Action.TheVariants.{Output}
use Rattle.nk_values.specs.declared.field.Field.{Field}
use Rattle.nk_values.specs.declared.field.Field.TheVariants.{Pt}
use Rattle.nk_values.specs.declared.packet.Packet.{Packet}
use Rattle.nk_values.specs.declared.lit.Lit.{Lit}
use Rattle.nk_values.specs.declared.rows.PortKind.{PortKind}
use Rattle.nk_values.specs.declared.rows.PortKind.TheVariants.{Edge, Linked}
use Rattle.nk_values.specs.Held.{put}
use Rattle.nk_values.specs.Lits.{lit_field, lit_value}
use Rattle.nk_values.specs.Members.{IsIn}
use Rattle.nk_values.specs.Packets.{get}
use Rattle.nk_values.specs.Ranges.{place}
use Rattle.nk_values.proofs.PacketLaws.{get-with_other}
use Rattle.fdd_nodes.specs.Cells.{unset}
use Rattle.fdd_nodes.specs.Trees.{apply}
use Rattle.leaf_actions.specs.declared.fault.ActionsFault.{ActionsFault}
use Rattle.leaf_actions.specs.declared.route.Route.{Route}
use Rattle.leaf_actions.specs.declared.view.PortView.{PortView}
use Rattle.leaf_actions.specs.declared.view.SwitchPort.{SwitchPort}
use Rattle.leaf_actions.specs.Changes.{changes, first_of_fields, goes_beyond, first_beyond}
use Rattle.leaf_actions.specs.Listing.{told_apart, apart, or_else, first_from, first_apart, change, changed, retagged, port_number, listed}
use Rattle.leaf_actions.specs.Routes.{out_of, route_by, routes_of}
use Rattle.leaf_actions.specs.Settable.{settable}
use Rattle.leaf_actions.specs.Views.{port_in}
use Rattle.nk_values.specs.Fitting.{actions_len}

-- the copy assigns ports alone
abbrev pub SetsPorts : List Lit → Type 0
SetsPorts c = (m : Lit) → IsIn c m → lit_field m ≡ Pt

-- actions set no port
no_setting : IsIn settable Pt → ⊥
no_setting (inl e) = absurd (let k : 4 ≡ 1 = ap place e in omega (arith, k))
no_setting (inr (inl e)) = absurd (let k : 5 ≡ 1 = ap place e in omega (arith, k))
no_setting (inr (inr (inl e))) = absurd (let k : 6 ≡ 1 = ap place e in omega (arith, k))
no_setting (inr (inr (inr (inl e)))) = absurd (let k : 7 ≡ 1 = ap place e in omega (arith, k))
no_setting (inr (inr (inr (inr (inl e))))) = absurd (let k : 8 ≡ 1 = ap place e in omega (arith, k))
no_setting (inr (inr (inr (inr (inr (inl e)))))) = absurd (let k : 9 ≡ 1 = ap place e in omega (arith, k))
no_setting (inr (inr (inr (inr (inr (inr e)))))) = absurd e

pub keeps_field : (c : List Lit) (x : Packet) (f : Field) → SetsPorts c → IsIn settable f → get (apply c x) f ≡ get x f
keeps_field [] x f h k = refl
keeps_field (l ∷ c) x f h k =
    keeps_field c (put l x) f (λ m i. h m (inr i)) k
    ∙ get-with_other x (lit_field l) f (lit_value l) (λ e. no_setting (subst (IsIn settable) (sym e ∙ h l (inl refl)) k))

never : (b : Bool) → b && not b ≡ false
never true = refl
never false = refl

unchanged : (x : Packet) (c : List Lit) (f : Field) → get (apply c x) f ≡ get x f → changes x c f ≡ false
unchanged x c f e = ap (λ (n : ℕ). (get x f == unset) && not (n == unset)) e ∙ never (get x f == unset)

none_found : (p : Field → Bool) (fs : List Field) → ((f : Field) → IsIn fs f → p f ≡ false) → first_of_fields p fs ≡ None
none_found p [] h = refl
none_found p (f ∷ fs) h = ap (λ b. cond b (Some f) (first_of_fields p fs)) (h f (inl refl)) ∙ none_found p fs (λ g k. h g (inr k))

none_beyond : (x : Packet) (a b : List Lit) → SetsPorts a → first_beyond x a b ≡ None
none_beyond x a b h = none_found (goes_beyond x a b) settable (λ f k. ap (λ u. u && not (changes x b f)) (unchanged x a f (keeps_field a x f h k)))

-- routes of such copies
abbrev pub RoutePorts : List Route → Type 0
RoutePorts rs = (r : Route) → IsIn rs r → SetsPorts r.copy

none_from : (x : Packet) (a : Route) (rs : List Route) → SetsPorts a.copy → first_from x a rs ≡ None
none_from x a [] h = refl
none_from x a (b ∷ rs) h =
    ap (λ (o : Option Field). or_else (told_apart a b o (first_beyond x b.copy a.copy)) (first_from x a rs)) (none_beyond x a.copy b.copy h) ∙ none_from x a rs h

pub none_apart : (x : Packet) (rs : List Route) → RoutePorts rs → first_apart x rs ≡ None
none_apart x [] h = refl
none_apart x (a ∷ rs) h =
    ap (λ (o : Option ActionsFault). or_else o (first_apart x rs)) (none_from x a rs (h a (inl refl))) ∙ none_apart x rs (λ r k. h r (inr k))

-- sizes

sizes_append : (xs ys : List Action) → actions_len (xs ++ ys) ≡ actions_len xs + actions_len ys
sizes_append [] ys = omega arith
sizes_append (x ∷ xs) ys = let e = sizes_append xs ys in omega (arith, e)

none_changed : (y z : Packet) (fs : List Field) → ((f : Field) → IsIn fs f → get y f ≡ get z f) → changed y z fs ≡ []
none_changed y z [] h = refl
none_changed y z (f ∷ fs) h =
    ap (λ (as' : List Action). as' ++ changed y z fs) (same (get y f) (get z f) (h f (inl refl))) ∙ none_changed y z fs (λ g k. h g (inr k))
  where
    same : (m n : ℕ) → m ≡ n → change f m n ≡ []
    same m n e = ap (λ b. cond b [] (change' m n)) (eq-eqb _ _ e)
      where
        change' : ℕ → ℕ → List Action
        change' m n = Rattle.leaf_actions.specs.Listing.setting f n ∷ []

small_tag : (stamp : ℕ) (k l : PortKind) → actions_len (retagged stamp k l) ≤ 8
small_tag stamp Edge Edge = omega arith
small_tag stamp Edge Linked = omega arith
small_tag stamp Linked Edge = omega arith
small_tag stamp Linked Linked = omega arith

-- of each copy at most a tag and an output
pub small_list : (v : PortView) (x y : Packet) (k : PortKind) (rs : List Route) → RoutePorts rs → ((f : Field) → IsIn settable f → get y f ≡ get x f) → actions_len (listed v x y k rs) ≤ 16 * length rs
small_list v x y k [] h e = omega arith
small_list v x y k (r ∷ rs) h e =
    let kept : (f : Field) → IsIn settable f → get (apply r.copy x) f ≡ get x f = λ f i. keeps_field r.copy x f (h r (inl refl)) i in
    let none = none_changed y (apply r.copy x) settable (λ f i. e f i ∙ sym (kept f i)) in
    let rest = small_list v x (apply r.copy x) r.kind rs (λ s i. h s (inr i)) kept in
    let tag = small_tag v.stamp k r.kind in
    let more : List Action = Output (port_number v r.port) ∷ listed v x (apply r.copy x) r.kind rs in
    let all : actions_len (listed v x y k (r ∷ rs)) ≡ actions_len (retagged v.stamp k r.kind ++ more) = ap (λ (as' : List Action). actions_len (as' ++ (retagged v.stamp k r.kind ++ more))) none in
    let two = sizes_append (retagged v.stamp k r.kind) more in
    omega (arith, all, two, tag, rest)

-- at most one route a copy
one_route : (x : Packet) (c : List Lit) (o : Option SwitchPort) → length (route_by x c o) ≤ 1
one_route x c None = omega arith
one_route x c (Some p) = omega arith

pub few_routes : (v : PortView) (x : Packet) (cs : List (List Lit)) → length (routes_of v x cs) ≤ length cs
few_routes v x [] = omega arith
few_routes v x (c ∷ cs) =
    let one = one_route x c (port_in v.ports (out_of v c)) in
    let rest = few_routes v x cs in
    let e = length-append (route_by x c (port_in v.ports (out_of v c))) (routes_of v x cs) in
    omega (arith, one, rest, e)
