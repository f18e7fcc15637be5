-- Lists of actions can be written: their numbers are those of their fields, of stamps and of ports.
use Rattle.std.proofs.Common.{◌≡◌, ◌≢◌, ◌<◌, ◌^◌, ℕ, inl, inr, refl, sym, ◌∙◌, subst, arith, cond, Bool, true, false, ◌==◌, List, [], ◌∷◌, ◌++◌}
use Rattle.std.specs.List.{AllByRecursion}
use Rattle.std.proofs.lemmas.Bool.{eqb-true, eqb-false}
use Rattle.nk_values.specs.declared.action.Action.{Action}
use Rattle.nk_values.specs.declared.action.Action.TheVariants.{Output}
use Rattle.nk_values.specs.declared.field.Field.{Field}
use Rattle.nk_values.specs.declared.field.Field.TheVariants.{Sw, Pt, EthTyp, IpProto, EthSrc, EthDst, Ip4Src, Ip4Dst, TcpSrcPort, TcpDstPort}
use Rattle.nk_values.specs.declared.lit.Lit.{Lit}
use Rattle.nk_values.specs.declared.packet.Packet.{Packet}
use Rattle.nk_values.specs.declared.rows.PortKind.{PortKind}
use Rattle.nk_values.specs.declared.rows.PortKind.TheVariants.{Edge, Linked}
use Rattle.nk_values.specs.Fitting.{FitsAction}
use Rattle.nk_values.specs.Members.{IsIn}
use Rattle.nk_values.specs.Packets.{get}
use Rattle.nk_values.specs.Ranges.{IsValue}
use Rattle.nk_values.specs.Tags.{IsVlanId}
use Rattle.fdd_nodes.specs.Cells.{IsUnset, IsValid}
use Rattle.fdd_nodes.specs.Trees.{apply}
use Rattle.leaf_actions.specs.declared.route.Route.{Route}
use Rattle.leaf_actions.specs.declared.view.PortView.{PortView}
use Rattle.leaf_actions.specs.Chains.{Climbs}
use Rattle.leaf_actions.specs.Listing.{setting, change, changed, retagged, port_number, listed, IsActionList}
use Rattle.leaf_actions.specs.Settable.{settable}
use Rattle.leaf_actions.proofs.Acted.{IsOut}
use Rattle.leaf_actions.proofs.ActionLists.{Ready, is_out}
use Rattle.leaf_actions.proofs.ChainLaws.{chain_none}
use Rattle.leaf_actions.proofs.Chained.{Keeps, keeps_of, climbs_of}
use Rattle.leaf_actions.proofs.Fixed.{valid_apply}
use Rattle.leaf_actions.proofs.Routed.{listed_known, listing_rises}

abbrev Fit : List Action → Type 0
Fit as' = AllByRecursion FitsAction as'

both_fit : (as' bs : List Action) → Fit as' → Fit bs → Fit (as' ++ bs)
both_fit [] bs a b = b
both_fit (x ∷ as') bs a b = (a.0, both_fit as' bs a.1 b)

-- a number of a field can be set
setting_fits : (f : Field) (n : ℕ) → IsValue f n → FitsAction (setting f n)
setting_fits Sw n v = let h = v.high in omega arith
setting_fits Pt n v = let h = v.high in omega arith
setting_fits EthTyp n v = let h = v.high in omega arith
setting_fits IpProto n v = let h = v.high in omega arith
setting_fits EthSrc n v = let h = v.high in omega arith
setting_fits EthDst n v = let h = v.high in omega arith
setting_fits Ip4Src n v = let h = v.high in omega arith
setting_fits Ip4Dst n v = let h = v.high in omega arith
setting_fits TcpSrcPort n v = let h = v.high in omega arith
setting_fits TcpDstPort n v = let h = v.high in omega arith

change_fits : (f : Field) (m n : ℕ) → (m ≢ n → IsValue f n) → Fit (change f m n)
change_fits f m n h = split (m == n) refl
  where
    split : (b : Bool) → (m == n) ≡ b → Fit (cond b [] (setting f n ∷ []))
    split true e = tt
    split false e = (setting_fits f n (h (eqb-false _ _ e)), tt)

-- what changes from one cell to one that keeps its fields is fixed there
changed_value : (y z : Packet) (f : Field) → IsIn settable f → Keeps y z → IsValid z → get y f ≢ get z f → IsValue f (get z f)
changed_value y z f i k v n = v.at f (λ o. n (opens o))
  where
    opens : IsUnset z f → get y f ≡ get z f
    opens o = split (get y f == get z f) refl
      where
        split : (b : Bool) → (get y f == get z f) ≡ b → get y f ≡ get z f
        split true e = eqb-true _ _ e
        split false e = absurd (k.each f i (λ d. eqb-false _ _ e (d ∙ sym o)) o)

changed_fit : (y z : Packet) (fs : List Field) → ((f : Field) → IsIn fs f → IsIn settable f) → Keeps y z → IsValid z → Fit (changed y z fs)
changed_fit y z [] h k v = tt
changed_fit y z (f ∷ fs) h k v =
    both_fit (change f (get y f) (get z f)) (changed y z fs) (change_fits f (get y f) (get z f) (changed_value y z f (h f (inl refl)) k v)) (changed_fit y z fs (λ g i. h g (inr i)) k v)

retagged_fit : (stamp : ℕ) (j k : PortKind) → IsVlanId stamp → Fit (retagged stamp j k)
retagged_fit stamp Edge Edge s = tt
retagged_fit stamp Edge Linked s = (omega arith, tt)
retagged_fit stamp Linked Edge s = (tt, tt)
retagged_fit stamp Linked Linked s = tt

number_fits : (v : PortView) (r : Route) → IsOut v r → FitsAction (Output (port_number v r.port))
number_fits v r o = split (r.port == v.pt) refl
  where
    split : (b : Bool) → (r.port == v.pt) ≡ b → cond b 65528 r.port < 2 ^ 16
    split true e = omega arith
    split false e = elim o [ inl k ↦ absurd (eqb-false _ _ e k) | inr k ↦ omega arith ]

listed_fit : (v : PortView) (x y : Packet) (k : PortKind) (rs : List Route) → IsVlanId v.stamp → IsValid x → ((r : Route) → IsIn rs r → IsOut v r) → Climbs x y rs → Fit (listed v x y k rs)
listed_fit v x y k [] s valid out c = tt
listed_fit v x y k (r ∷ rs) s valid out c =
    let z = apply r.copy x in
    both_fit (changed y z settable) (retagged v.stamp k r.kind ++ Output (port_number v r.port) ∷ listed v x z r.kind rs)
    (changed_fit y z settable (λ f i. i) (keeps_of y z c.0) (valid_apply r.copy x valid))
    (both_fit (retagged v.stamp k r.kind) (Output (port_number v r.port) ∷ listed v x z r.kind rs) (retagged_fit v.stamp k r.kind s)
    (number_fits v r (out r (inl refl)), listed_fit v x z r.kind rs s valid (λ t i. out t (inr i)) c.1))

pub actions_fit : (x : Packet) (v : PortView) (cs : List (List Lit)) (as' : List Action) → IsVlanId v.stamp → IsValid x → Ready x v cs as' → AllByRecursion FitsAction as'
actions_fit x v cs as' s valid ready =
    subst (λ (l : List Action). Fit l) (sym ready.actions)
    (listed_fit v x x v.kind ready.routes s valid (λ r i. is_out v x cs r (listed_known v x cs ready.routes ready.listing r i)) ready.climbs)

-- whatever lists the copies can be written
pub list_fits : (x : Packet) (v : PortView) (cs : List (List Lit)) (as' : List Action) → IsVlanId v.stamp → IsValid x → IsActionList x v cs as' → AllByRecursion FitsAction as'
list_fits x v cs as' s valid list =
    actions_fit x v cs as' s valid (record {
      routes = list.routes;
      listing = list.listing;
      climbs = climbs_of x list.routes (listing_rises v x cs list.routes list.listing) (chain_none x list.routes list.chain);
      actions = list.actions;
    })
