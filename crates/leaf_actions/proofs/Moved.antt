-- Copies that set no header field: what they leave, and their actions.
use Rattle.std.proofs.Common.{Some, ◌≡◌, ◌≢◌, ◌+◌, inl, inr, refl, ap, sym, ◌∙◌, subst, cond, Bool, true, false, ◌==◌, List, [], ◌∷◌, ◌++◌}
use Rattle.std.specs.Prelude.{◌&&◌, not}
use Rattle.std.proofs.lemmas.Bool.{eq-eqb}
use Rattle.nk_values.specs.declared.action.Action.{Action}
use Rattle.nk_values.specs.declared.action.Action.TheVariants.{Output}
use Rattle.nk_values.specs.declared.field.Field.{Field}
use Rattle.nk_values.specs.declared.field.Field.TheVariants.{Pt, EthSrc, EthDst, Ip4Src, Ip4Dst, TcpSrcPort, TcpDstPort}
use Rattle.nk_values.specs.declared.packet.Packet.{Packet}
use Rattle.nk_values.specs.declared.lit.Lit.{Lit}
use Rattle.nk_values.specs.declared.rows.PortKind.{PortKind}
use Rattle.nk_values.specs.Held.{put}
use Rattle.nk_values.specs.Lits.{lit_field, lit_value}
use Rattle.nk_values.specs.Members.{IsIn}
use Rattle.nk_values.specs.Packets.{get}
use Rattle.nk_values.proofs.PacketLaws.{get-with_other}
use Rattle.fdd_nodes.specs.Cells.{unset}
use Rattle.fdd_nodes.specs.Trees.{apply}
use Rattle.leaf_actions.specs.declared.route.Route.{Route}
use Rattle.leaf_actions.specs.declared.view.PortView.{PortView}
use Rattle.leaf_actions.specs.declared.view.SwitchPort.{SwitchPort}
use Rattle.leaf_actions.specs.Chains.{Climbs}
use Rattle.leaf_actions.specs.Changes.{changes, bit, count_of, change_count}
use Rattle.leaf_actions.specs.Listing.{setting, change, changed, retagged, port_number, listed}
use Rattle.leaf_actions.specs.Moves.{Moves, AllMove, moved}
use Rattle.leaf_actions.specs.Routes.{IsListing, route_by}
use Rattle.leaf_actions.specs.Settable.{settable}
use Rattle.leaf_actions.proofs.ActionLists.{Ready}
use Rattle.leaf_actions.proofs.Chained.{of_keeps}
use Rattle.leaf_actions.proofs.Routed.{listed_known}

pub not_pt : (f : Field) → IsIn settable f → f ≢ Pt
not_pt f (inl e) d = let k : EthSrc ≡ Pt = e ∙ d in cc
not_pt f (inr (inl e)) d = let k : EthDst ≡ Pt = e ∙ d in cc
not_pt f (inr (inr (inl e))) d = let k : Ip4Src ≡ Pt = e ∙ d in cc
not_pt f (inr (inr (inr (inl e)))) d = let k : Ip4Dst ≡ Pt = e ∙ d in cc
not_pt f (inr (inr (inr (inr (inl e))))) d = let k : TcpSrcPort ≡ Pt = e ∙ d in cc
not_pt f (inr (inr (inr (inr (inr (inl e)))))) d = let k : TcpDstPort ≡ Pt = e ∙ d in cc
not_pt f (inr (inr (inr (inr (inr (inr h)))))) d = h

-- two packets with the same header fields
abbrev Same : Packet → Packet → Type 0
Same x y = (f : Field) → IsIn settable f → get x f ≡ get y f

same_move : (c : List Lit) (x : Packet) → Moves c → Same (apply c x) x
same_move [] x m f i = refl
same_move (l ∷ c) x m f i =
    let other : lit_field l ≢ f = λ (e : lit_field l ≡ f). not_pt f i (sym e ∙ m.0) in
    same_move c (put l x) m.1 f i ∙ get-with_other x (lit_field l) f (lit_value l) other

-- such a copy counts nothing
unchanged : (b : Bool) → b && not b ≡ false
unchanged true = refl
unchanged false = refl

pub count_none : (p : Field → Bool) (fs : List Field) → ((f : Field) → IsIn fs f → p f ≡ false) → count_of p fs ≡ 0
count_none p [] h = refl
count_none p (f ∷ fs) h = ap (λ b. bit b + count_of p fs) (h f (inl refl)) ∙ ap (λ n. 0 + n) (count_none p fs (λ g i. h g (inr i)))

pub no_change : (x : Packet) (c : List Lit) → Moves c → 0 ≡ change_count x c
no_change x c m = sym (count_none (changes x c) settable (λ f i. ap (λ n. (get x f == unset) && not (n == unset)) (same_move c x m f i) ∙ unchanged (get x f == unset)))

-- nothing is to be set
changed_none : (y z : Packet) (fs : List Field) → ((f : Field) → IsIn fs f → get y f ≡ get z f) → changed y z fs ≡ []
changed_none y z [] h = refl
changed_none y z (f ∷ fs) h =
    ap (λ (l : List Action). change f (get y f) (get z f) ++ l) (changed_none y z fs (λ g i. h g (inr i))) ∙
    ap (λ b. cond b [] (setting f (get z f) ∷ []) ++ []) (eq-eqb (get y f) (get z f) (h f (inl refl)))

same_after : (x y : Packet) (c : List Lit) → Same y x → Moves c → Same y (apply c x)
same_after x y c s m f i = s f i ∙ sym (same_move c x m f i)

pub no_changes : (x : Packet) (c : List Lit) → Moves c → changed x (apply c x) settable ≡ []
no_changes x c m = changed_none x (apply c x) settable (same_after x x c (λ f i. refl) m)

listed_moved : (v : PortView) (x y : Packet) (k : PortKind) (rs : List Route) → Same y x → ((r : Route) → IsIn rs r → Moves r.copy) → listed v x y k rs ≡ moved v k rs
listed_moved v x y k [] s m = refl
listed_moved v x y k (r ∷ rs) s m =
    let z = apply r.copy x in
    ap (λ (l : List Action). l ++ (retagged v.stamp k r.kind ++ Output (port_number v r.port) ∷ listed v x z r.kind rs)) (changed_none y z settable (same_after x y r.copy s (m r (inl refl)))) ∙
    ap (λ (l : List Action). retagged v.stamp k r.kind ++ Output (port_number v r.port) ∷ l) (listed_moved v x z r.kind rs (same_move r.copy x (m r (inl refl))) (λ t i. m t (inr i)))

climbs_moved : (x y : Packet) (rs : List Route) → Same y x → ((r : Route) → IsIn rs r → Moves r.copy) → Climbs x y rs
climbs_moved x y [] s m = tt
climbs_moved x y (r ∷ rs) s m =
    let z = apply r.copy x in
    (of_keeps y z (record { each = λ f i n. λ (e : get z f ≡ unset). n (same_after x y r.copy s (m r (inl refl)) f i ∙ e) }), climbs_moved x z rs (same_move r.copy x (m r (inl refl))) (λ t i. m t (inr i)))

each_moves : (cs : List (List Lit)) (c : List Lit) → AllMove cs → IsIn cs c → Moves c
each_moves [] c m i = absurd i
each_moves (d ∷ cs) c m (inl e) = subst (λ (a : List Lit). Moves a) e m.0
each_moves (d ∷ cs) c m (inr i) = each_moves cs c m.1 i

pub moves_ready : (x : Packet) (v : PortView) (cs ds : List (List Lit)) (rs ns : List Route) (as' : List Action) → ds ≡ cs → ns ≡ rs → AllMove ds → IsListing v x ds rs → as' ≡ moved v v.kind ns → Ready x v cs as'
moves_ready x v cs ds rs ns as' ed en m l e =
    let each : (r : Route) → IsIn rs r → Moves r.copy = λ r i. each_moves ds r.copy m (listed_known v x ds rs l r i).copy in
    subst (λ (es : List (List Lit)). Ready x v es as') ed (record {
      routes = rs;
      listing = l;
      climbs = climbs_moved x x rs (λ f i. refl) each;
      actions = e ∙ ap (moved v v.kind) en ∙ sym (listed_moved v x x v.kind rs (λ f i. refl) each);
    })

-- A copy that sets no header field changes the tag, if the kinds of port differ, and is one output.
pub lone_move : (v : PortView) (x : Packet) (c : List Lit) (p : SwitchPort) → Moves c → listed v x x v.kind (route_by x c (Some p) ++ []) ≡ retagged v.stamp v.kind p.kind ++ Output (port_number v p.pt) ∷ []
lone_move v x c p m = ap (λ (l : List Action). l ++ (retagged v.stamp v.kind p.kind ++ Output (port_number v p.pt) ∷ [])) (no_changes x c m)
