-- Routes of copies, in whatever order.
use Rattle.std.proofs.Common.{◌≡◌, ◌≤◌, ◌<◌, ℕ, zero, suc, inl, inr, refl, ap, sym, ◌∙◌, subst, arith, Bool, true, false, cond, ◌==◌, List, [], ◌∷◌, ◌++◌, length, get_or, map, Option, Some, None, add-one}
use Rattle.std.specs.List.{Contains}
use Rattle.std.specs.List.Sorted.{IsPermutation, IsSorted}
use Rattle.std.specs.Ordering.{is_lt, ordering_then, nat_cmp}
use Rattle.std.specs.declared.cmp.Ordering.{Ordering}
use Rattle.std.specs.declared.cmp.Ordering.TheVariants.{Less, Equal, Greater}
use Rattle.std.proofs.lemmas.Bool.{lt-ltb}
use Rattle.std.proofs.lemmas.Bool.Decides.{leb_tells}
use Rattle.std.proofs.lemmas.List.{map-append}
use Rattle.std.proofs.lemmas.List.Sorted.{Contains-permutation, IsPermutation-map, IsPermutation-sym}
use Rattle.nk_values.specs.declared.packet.Packet.{Packet}
use Rattle.nk_values.specs.declared.lit.Lit.{Lit}
use Rattle.nk_values.specs.declared.field.Field.TheVariants.{Pt}
use Rattle.nk_values.specs.declared.sent.SentPacket.{SentPacket}
use Rattle.nk_values.specs.Members.{IsIn}
use Rattle.nk_values.specs.Packets.{with_value}
use Rattle.nk_values.proofs.MemberLaws.{in-either}
use Rattle.fdd_nodes.specs.Cells.{whole_cell}
use Rattle.fdd_nodes.specs.Copies.{copy_cmp}
use Rattle.fdd_nodes.specs.Trees.{apply}
use Rattle.leaf_actions.specs.declared.route.Route.{Route}
use Rattle.leaf_actions.specs.declared.view.PortView.{PortView}
use Rattle.leaf_actions.specs.declared.view.SwitchPort.{SwitchPort}
use Rattle.leaf_actions.specs.Acting.{sent_by_port, sendings}
use Rattle.leaf_actions.specs.Changes.{change_count}
use Rattle.leaf_actions.specs.Routes.{out_of, route_by, routes_of, route_cmp, IsListing}
use Rattle.leaf_actions.specs.Views.{port_in}
use Rattle.policy_rows.specs.Means.{port_tag}
use Rattle.leaf_actions.proofs.Fixed.{apply_at}
use Rattle.leaf_actions.proofs.Chained.{Rises, AllRise}

-- elements, by their places
pub in_contains : {X : Type 0} (xs : List X) (x : X) → IsIn xs x → Contains xs x
in_contains [] x h = absurd h
in_contains (y ∷ xs) x (inl e) = (0, omega arith, e)
in_contains (y ∷ xs) x (inr h) = let c = in_contains xs x h in (suc c.0, omega (arith, c.1), c.2)

contains_in : {X : Type 0} (xs : List X) (x : X) (k : ℕ) → k < length xs → get_or xs k x ≡ x → IsIn xs x
contains_in [] x k h e = absurd (omega arith)
contains_in (y ∷ xs) x zero h e = inl e
contains_in (y ∷ xs) x (suc k) h e = inr (contains_in xs x k (omega arith) e)

pub in_permuted : {X : Type 0} (xs ys : List X) (x : X) → IsPermutation xs ys → IsIn xs x → IsIn ys x
in_permuted xs ys x p h = let c = Contains-permutation xs ys x p (in_contains xs x h) in contains_in ys x c.0 c.1 c.2

pub in_original : {X : Type 0} (xs ys : List X) (x : X) → IsPermutation xs ys → IsIn ys x → IsIn xs x
in_original xs ys x p h = in_permuted ys xs x (IsPermutation-sym xs ys p) h

-- what is known of each route
pub record IsRouteOf (v : PortView) (x : Packet) (cs : List (List Lit)) (r : Route) : Type 0 where
  pub copy : IsIn cs r.copy
  pub count : r.count ≡ change_count x r.copy
  pub site : SwitchPort
  pub found : port_in v.ports (out_of v r.copy) ≡ Some site
  pub port : site.pt ≡ r.port
  pub kind : site.kind ≡ r.kind

by_port : (v : PortView) (x : Packet) (c : List Lit) (cs : List (List Lit)) (o : Option SwitchPort) → port_in v.ports (out_of v c) ≡ o → (r : Route) → IsIn (route_by x c o) r → IsRouteOf v x (c ∷ cs) r
by_port v x c cs None e r h = absurd h
by_port v x c cs (Some s) e r (inr h) = absurd h
by_port v x c cs (Some s) e r (inl d) =
    subst (λ (t : Route). IsRouteOf v x (c ∷ cs) t) d (record { copy = inl refl; count = refl; site = s; found = e; port = refl; kind = refl })

more : (v : PortView) (x : Packet) (c : List Lit) (cs : List (List Lit)) (r : Route) → IsRouteOf v x cs r → IsRouteOf v x (c ∷ cs) r
more v x c cs r h = record { copy = inr h.copy; count = h.count; site = h.site; found = h.found; port = h.port; kind = h.kind }

route_known : (v : PortView) (x : Packet) (cs : List (List Lit)) (r : Route) → IsIn (routes_of v x cs) r → IsRouteOf v x cs r
route_known v x [] r h = absurd h
route_known v x (c ∷ cs) r h =
    elim (in-either (route_by x c (port_in v.ports (out_of v c))) (routes_of v x cs) r h) [
      | inl k ↦ by_port v x c cs (port_in v.ports (out_of v c)) refl r k
      | inr k ↦ more v x c cs r (route_known v x cs r k)
    ]

pub listed_known : (v : PortView) (x : Packet) (cs : List (List Lit)) (rs : List Route) → IsListing v x cs rs → (r : Route) → IsIn rs r → IsRouteOf v x cs r
listed_known v x cs rs l r h = route_known v x cs r (in_original (routes_of v x cs) rs r l.all h)

-- the counts of sorted routes rise
not_less : (a b : ℕ) (o : Ordering) → is_lt (ordering_then (nat_cmp b a) o) ≡ false → a ≤ b
not_less a b o h = elim (leb_tells a b) [
  | inl y ↦ y.1
  | inr n ↦ absurd (true_false (subst (λ (t : Bool). is_lt (ordering_then (cond t Less (cond (b == a) Equal Greater)) o) ≡ false) (lt-ltb _ _ n.1) h))
]
  where
    true_false : true ≡ false → ⊥
    true_false e = cc

rises_of : (x : Packet) (a : Route) (rs : List Route) → ((r : Route) → IsIn (a ∷ rs) r → r.count ≡ change_count x r.copy) → IsSorted route_cmp (a ∷ rs) → Rises x a rs
rises_of x a [] c s = tt
rises_of x a (b ∷ rs) c s =
    let n : a.count ≤ b.count = not_less a.count b.count (ordering_then (nat_cmp b.port a.port) (copy_cmp b.copy a.copy)) (s 0 a (omega arith) (omega arith)) in (
      omega (arith, n, c a (inl refl), c b (inr (inl refl))),
      rises_of x b rs (λ r k. c r (inr k)) (λ k d h i.
          subst (λ (m : ℕ). is_lt (route_cmp (get_or (b ∷ rs) m d) (get_or (b ∷ rs) k d)) ≡ false) (sym (add-one k))
          (subst (λ (m : ℕ). is_lt (route_cmp (get_or (a ∷ b ∷ rs) m d) (get_or (a ∷ b ∷ rs) (suc k) d)) ≡ false) (add-one (suc k)) (s (suc k) d (omega arith) (omega (arith, i))))),
    )

all_rise : (x : Packet) (rs : List Route) → ((r : Route) → IsIn rs r → r.count ≡ change_count x r.copy) → IsSorted route_cmp rs → AllRise x rs
all_rise x [] c s = tt
all_rise x (a ∷ rs) c s = rises_of x a rs c s

pub listing_rises : (v : PortView) (x : Packet) (cs : List (List Lit)) (rs : List Route) → IsListing v x cs rs → AllRise x rs
listing_rises v x cs rs l = all_rise x rs (λ r k. (listed_known v x cs rs l r k).count) l.sorted

-- what a route's copy sends
abbrev pub sent_route : PortView → Packet → Route → SentPacket
sent_route v p r = record { port = r.port; header = (apply r.copy p).header; tag = port_tag r.kind v.stamp }

sent_one : (v : PortView) (x p : Packet) (c : List Lit) (o : Option SwitchPort) → map (sent_route v p) (route_by x c o) ≡ sent_by_port v (apply c p) o
sent_one v x p c None = refl
sent_one v x p c (Some s) = refl

out_at : (v : PortView) (p : Packet) (c : List Lit) → p.pt ≡ v.pt → (apply c p).pt ≡ out_of v c
out_at v p c e = apply_at c p (with_value whole_cell Pt v.pt) Pt e

sent_all : (v : PortView) (x p : Packet) (cs : List (List Lit)) → p.pt ≡ v.pt → map (sent_route v p) (routes_of v x cs) ≡ sendings v cs p
sent_all v x p [] e = refl
sent_all v x p (c ∷ cs) e =
    map-append (sent_route v p) (route_by x c (port_in v.ports (out_of v c))) (routes_of v x cs) ∙
    ap (λ (l : List SentPacket). l ++ map (sent_route v p) (routes_of v x cs)) (sent_one v x p c (port_in v.ports (out_of v c)) ∙ ap (λ n. sent_by_port v (apply c p) (port_in v.ports n)) (sym (out_at v p c e))) ∙
    ap (λ (l : List SentPacket). sent_by_port v (apply c p) (port_in v.ports (apply c p).pt) ++ l) (sent_all v x p cs e)

-- listed copies send what all of them send, in some order
pub sent_listed : (v : PortView) (x p : Packet) (cs : List (List Lit)) (rs : List Route) → p.pt ≡ v.pt → IsPermutation (routes_of v x cs) rs → IsPermutation (sendings v cs p) (map (sent_route v p) rs)
sent_listed v x p cs rs e h = subst (λ (l : List SentPacket). IsPermutation l (map (sent_route v p) rs)) (sent_all v x p cs e) (IsPermutation-map (sent_route v p) (routes_of v x cs) rs h)
