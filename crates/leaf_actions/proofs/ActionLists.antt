-- Lists of actions: what they are, and what they send.
use Rattle.std.proofs.Common.{◌≡◌, ◌⊎◌, ℕ, inl, inr, refl, ap, sym, ◌∙◌, subst, arith, cond, Bool, true, false, ◌==◌, List, [], ◌∷◌, map, Option, Some, None}
use Rattle.std.proofs.lemmas.Bool.{eqb-true}
use Rattle.std.specs.List.Sorted.{IsPermutation}
use Rattle.nk_values.specs.declared.action.Action.{Action}
use Rattle.nk_values.specs.declared.field.Field.{Field}
use Rattle.nk_values.specs.declared.field.Field.TheVariants.{Pt}
use Rattle.nk_values.specs.declared.packet.Packet.{Packet}
use Rattle.nk_values.specs.declared.lit.Lit.{Lit}
use Rattle.nk_values.specs.declared.sent.SentPacket.{SentPacket}
use Rattle.nk_values.specs.Acts.{acted}
use Rattle.nk_values.specs.Held.{put}
use Rattle.nk_values.specs.Lits.{lit_field, lit_value}
use Rattle.nk_values.specs.Packets.{get, with_value}
use Rattle.nk_values.specs.Ranges.{IsLiteralOf}
use Rattle.nk_values.specs.Tags.{IsVlanId}
use Rattle.nk_values.proofs.PacketLaws.{get-with_same, get-with_other, field_cases}
use Rattle.fdd_nodes.specs.Cells.{whole_cell}
use Rattle.fdd_nodes.specs.Trees.{apply}
use Rattle.leaf_actions.specs.declared.fault.ActionsFault.{ActionsFault}
use Rattle.leaf_actions.specs.declared.route.Route.{Route}
use Rattle.leaf_actions.specs.declared.view.PortView.{PortView}
use Rattle.leaf_actions.specs.declared.view.SwitchPort.{SwitchPort}
use Rattle.leaf_actions.specs.Acting.{sendings, ActsAs}
use Rattle.leaf_actions.specs.Chains.{Climbs}
use Rattle.leaf_actions.specs.Listing.{first_apart, listed, IsActionList}
use Rattle.leaf_actions.specs.Routes.{out_of, IsListing}
use Rattle.leaf_actions.specs.Settable.{AreSettable}
use Rattle.leaf_actions.specs.Views.{port_in, arriving}
use Rattle.policy_rows.specs.Means.{port_tag}
use Rattle.leaf_actions.proofs.Acted.{IsOut, acted_listed}
use Rattle.leaf_actions.proofs.Allowed.{one_settable}
use Rattle.leaf_actions.proofs.Chained.{chain_of, climbs_of}
use Rattle.leaf_actions.proofs.Fixed.{fill_own}
use Rattle.leaf_actions.proofs.Routed.{IsRouteOf, listed_known, listing_rises, sent_route, sent_listed}

-- copies in order that climb, and their actions
pub record Ready (x : Packet) (v : PortView) (cs : List (List Lit)) (as' : List Action) : Type 0 where
  pub routes : List Route
  pub listing : IsListing v x cs routes
  pub climbs : Climbs x x routes
  pub actions : as' ≡ listed v x x v.kind routes

-- the same under the names that the code gives
pub ready : (v : PortView) (cs ds : List (List Lit)) (x : Packet) (rs ns ms : List Route) (as' : List Action) → ds ≡ cs → ns ≡ rs → ms ≡ rs →
    IsListing v x ds rs → Climbs x x ns → as' ≡ listed v x x v.kind ms → Ready x v cs as'
ready v cs ds x rs ns ms as' ed en em l c a = record {
  routes = rs;
  listing = subst (λ (es : List (List Lit)). IsListing v x es rs) ed l;
  climbs = subst (λ (ys : List Route). Climbs x x ys) en c;
  actions = subst (λ (ys : List Route). as' ≡ listed v x x v.kind ys) em a;
}

pub action_list : (x : Packet) (v : PortView) (cs : List (List Lit)) (as' : List Action) → Ready x v cs as' → IsActionList x v cs as'
action_list x v cs as' r = record { routes = r.routes; listing = r.listing; chain = chain_of x x r.routes r.climbs; actions = r.actions }

-- the port with a number has that number
pub port_found : (ps : List SwitchPort) (n : ℕ) (s : SwitchPort) → port_in ps n ≡ Some s → s.pt ≡ n
port_found [] n s h = absurd (cc)
port_found (p ∷ ps) n s h = split (p.pt == n) refl (port_found ps n s)
  where
    split : (b : Bool) → (p.pt == n) ≡ b → (port_in ps n ≡ Some s → s.pt ≡ n) → s.pt ≡ n
    split true e r = let k : Some p ≡ Some s = sym (ap (λ b. cond b (Some p) (port_in ps n)) e) ∙ h in let d : p ≡ s = cc in ap (λ (q : SwitchPort). q.pt) (sym d) ∙ eqb-true _ _ e
    split false e r = r (sym (ap (λ b. cond b (Some p) (port_in ps n)) e) ∙ h)

-- a copy leaves by its own port, or by one that it assigns
out_cases : (c : List Lit) (x : Packet) → ((apply c x).pt ≡ x.pt) ⊎ IsLiteralOf Pt (apply c x).pt
out_cases [] x = inl refl
out_cases (l ∷ c) x = elim (out_cases c (put l x)) [
  | inr h ↦ inr h
  | inl e ↦ elim (field_cases (lit_field l) Pt) [
    | inr o ↦ inl (e ∙ get-with_other x (lit_field l) Pt (lit_value l) o)
    | inl d ↦ inr (subst (λ (n : ℕ). IsLiteralOf Pt n) (sym (e ∙ subst (λ (g : Field). get (with_value x (lit_field l) (lit_value l)) g ≡ lit_value l) d (get-with_same x (lit_field l) (lit_value l)))) (subst (λ (g : Field). IsLiteralOf g (lit_value l)) d l.literal))
  ]
]

pub is_out : (v : PortView) (x : Packet) (cs : List (List Lit)) (r : Route) → IsRouteOf v x cs r → IsOut v r
is_out v x cs r k =
    let e : r.port ≡ out_of v r.copy = sym k.port ∙ port_found v.ports (out_of v r.copy) k.site k.found in
    elim (out_cases r.copy (with_value whole_cell Pt v.pt)) [
      | inl d ↦ inl (e ∙ d)
      | inr l ↦ let low = l.low in let high = l.value.high in inr (omega (arith, low, e), omega (arith, high, e))
    ]

pub acts_as : (x : Packet) (v : PortView) (cs : List (List Lit)) (as' : List Action) → AreSettable cs → IsVlanId v.stamp → Ready x v cs as' → ActsAs x v cs as'
acts_as x v cs as' t s ready = record {
  same = λ p a d.
      let known = acted_listed v x x p v.kind ready.routes s a refl refl (λ r i. let k = listed_known v x cs ready.routes ready.listing r i in (is_out v x cs r k, one_settable cs r.copy t k.copy)) ready.climbs in
      let now : acted as' (arriving v p) ≡ map (sent_route v p) ready.routes =
      ap (λ (l : List Action). acted l (arriving v p)) ready.actions ∙
      ap (λ (q : Packet). acted (listed v x x v.kind ready.routes) (record { port = v.pt; header = q.header; tag = port_tag v.kind v.stamp })) (sym (fill_own x p a)) ∙
      known in
      subst (λ (xs : List SentPacket). IsPermutation (sendings v cs p) xs) (sym now) (sent_listed v x p cs ready.routes d ready.listing.all);
}

-- where the copies do not climb some two are apart
pub some_apart : (v : PortView) (x : Packet) (cs : List (List Lit)) (rs ns ms : List Route) (o : Option ActionsFault) → ns ≡ rs → ms ≡ rs → IsListing v x cs rs → ¬ Climbs x x ns → o ≡ first_apart x ms → o ≡ None → ⊥
some_apart v x cs rs ns ms o en em l n f e =
    n (subst (λ (ys : List Route). Climbs x x ys) (sym en) (climbs_of x rs (listing_rises v x cs rs l) (ap (first_apart x) (sym em) ∙ sym f ∙ e)))
