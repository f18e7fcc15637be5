-- What the actions of a list of copies send.
use Rattle.std.proofs.Common.{◌≡◌, ◌≢◌, ◌≤◌, ◌⊎◌, ℕ, inl, inr, refl, ap, sym, ◌∙◌, arith, cond, Bool, true, false, ◌==◌, List, [], ◌∷◌, ◌++◌, map, append_assoc, Option, Some, None}
use Rattle.std.specs.Prelude.{nat_le, ◌&&◌, not}
use Rattle.std.proofs.lemmas.Bool.{eqb-true, eqb-false, ne_eqb, le-leb}
use Rattle.std.proofs.lemmas.Bool.Decides.{eqb_tells}
use Rattle.nk_values.specs.declared.action.Action.{Action}
use Rattle.nk_values.specs.declared.action.Action.TheVariants.{Output, SetDlSrc, SetDlDst, SetNwSrc, SetNwDst, SetTpSrc, SetTpDst}
use Rattle.nk_values.specs.declared.field.Field.TheVariants.{EthTyp, IpProto, EthSrc, EthDst, Ip4Src, Ip4Dst, TcpSrcPort, TcpDstPort}
use Rattle.nk_values.specs.declared.packet.Header.{Header}
use Rattle.nk_values.specs.declared.packet.Packet.{Packet}
use Rattle.nk_values.specs.declared.rows.PortKind.{PortKind}
use Rattle.nk_values.specs.declared.rows.PortKind.TheVariants.{Edge, Linked}
use Rattle.nk_values.specs.declared.sent.SentPacket.{SentPacket}
use Rattle.nk_values.specs.Acts.{out_port, sent_to, acted}
use Rattle.nk_values.specs.Members.{IsIn}
use Rattle.nk_values.specs.Patterns.{Incoming}
use Rattle.nk_values.specs.Tags.{IsVlanId}
use Rattle.fdd_nodes.specs.Cells.{unset, fill, pick, Agrees}
use Rattle.fdd_nodes.specs.Trees.{apply}
use Rattle.leaf_actions.specs.declared.route.Route.{Route}
use Rattle.leaf_actions.specs.declared.view.PortView.{PortView}
use Rattle.leaf_actions.specs.Chains.{Climbs}
use Rattle.leaf_actions.specs.Listing.{changed, retagged, port_number, listed}
use Rattle.leaf_actions.specs.Settable.{settable, CopyCanBeSet}
use Rattle.policy_rows.specs.Means.{port_tag}
use Rattle.leaf_actions.proofs.Chained.{Keeps, keeps_of}
use Rattle.leaf_actions.proofs.Fixed.{pick_fixed, fill_apply, fill_own, never_set, not_typ, not_proto}
use Rattle.leaf_actions.proofs.Routed.{sent_route}

abbrev inc : ℕ → Header → Option ℕ → Incoming
inc port h tag = record { port = port; header = h; tag = tag }

-- one field after another, set where b says that it is to change
abbrev src : Bool → ℕ → Header → Header
src b n h = record h { eth_src = cond b h.eth_src n }

abbrev dst : Bool → ℕ → Header → Header
dst b n h = record h { eth_dst = cond b h.eth_dst n }

abbrev nw_src : Bool → ℕ → Header → Header
nw_src b n h = record h { ip4_src = cond b h.ip4_src n }

abbrev nw_dst : Bool → ℕ → Header → Header
nw_dst b n h = record h { ip4_dst = cond b h.ip4_dst n }

abbrev tp_src : Bool → ℕ → Header → Header
tp_src b n h = record h { tcp_src_port = cond b h.tcp_src_port n }

abbrev tp_dst : Bool → ℕ → Header → Header
tp_dst b n h = record h { tcp_dst_port = cond b h.tcp_dst_port n }

acted-src : (b : Bool) (n port : ℕ) (h : Header) (tag : Option ℕ) (rest : List Action) → acted (cond b [] (SetDlSrc n ∷ []) ++ rest) (inc port h tag) ≡ acted rest (inc port (src b n h) tag)
acted-src true n port h tag rest = refl
acted-src false n port h tag rest = refl

acted-dst : (b : Bool) (n port : ℕ) (h : Header) (tag : Option ℕ) (rest : List Action) → acted (cond b [] (SetDlDst n ∷ []) ++ rest) (inc port h tag) ≡ acted rest (inc port (dst b n h) tag)
acted-dst true n port h tag rest = refl
acted-dst false n port h tag rest = refl

acted-nw_src : (b : Bool) (n port : ℕ) (h : Header) (tag : Option ℕ) (rest : List Action) → acted (cond b [] (SetNwSrc n ∷ []) ++ rest) (inc port h tag) ≡ acted rest (inc port (nw_src b n h) tag)
acted-nw_src true n port h tag rest = refl
acted-nw_src false n port h tag rest = refl

acted-nw_dst : (b : Bool) (n port : ℕ) (h : Header) (tag : Option ℕ) (rest : List Action) → acted (cond b [] (SetNwDst n ∷ []) ++ rest) (inc port h tag) ≡ acted rest (inc port (nw_dst b n h) tag)
acted-nw_dst true n port h tag rest = refl
acted-nw_dst false n port h tag rest = refl

acted-tp_src : (b : Bool) (n port : ℕ) (h : Header) (tag : Option ℕ) (rest : List Action) → acted (cond b [] (SetTpSrc n ∷ []) ++ rest) (inc port h tag) ≡ acted rest (inc port (tp_src b n h) tag)
acted-tp_src true n port h tag rest = refl
acted-tp_src false n port h tag rest = refl

acted-tp_dst : (b : Bool) (n port : ℕ) (h : Header) (tag : Option ℕ) (rest : List Action) → acted (cond b [] (SetTpDst n ∷ []) ++ rest) (inc port h tag) ≡ acted rest (inc port (tp_dst b n h) tag)
acted-tp_dst true n port h tag rest = refl
acted-tp_dst false n port h tag rest = refl

-- a header whose settable fields were those of y, with those of z
abbrev over : Header → Header → Header → Header
over y z h =
    tp_dst (y.tcp_dst_port == z.tcp_dst_port) z.tcp_dst_port (tp_src (y.tcp_src_port == z.tcp_src_port) z.tcp_src_port (nw_dst (y.ip4_dst == z.ip4_dst) z.ip4_dst
    (nw_src (y.ip4_src == z.ip4_src) z.ip4_src (dst (y.eth_dst == z.eth_dst) z.eth_dst (src (y.eth_src == z.eth_src) z.eth_src h)))))

-- the actions in one row
abbrev six : Header → Header → List Action → List Action
six y z rest =
    cond (y.eth_src == z.eth_src) [] (SetDlSrc z.eth_src ∷ []) ++ (cond (y.eth_dst == z.eth_dst) [] (SetDlDst z.eth_dst ∷ []) ++ (cond (y.ip4_src == z.ip4_src) [] (SetNwSrc z.ip4_src ∷ [])
    ++ (cond (y.ip4_dst == z.ip4_dst) [] (SetNwDst z.ip4_dst ∷ []) ++ (cond (y.tcp_src_port == z.tcp_src_port) [] (SetTpSrc z.tcp_src_port ∷ []) ++ (cond (y.tcp_dst_port == z.tcp_dst_port) [] (SetTpDst z.tcp_dst_port ∷ []) ++ rest)))))

in_row : (y z : Packet) (rest : List Action) → changed y z settable ++ rest ≡ six y.header z.header rest
in_row y z rest = simp append_assoc

acted-six : (y z : Header) (port : ℕ) (h : Header) (tag : Option ℕ) (rest : List Action) → acted (six y z rest) (inc port h tag) ≡ acted rest (inc port (over y z h) tag)
acted-six y z port h tag rest =
    acted-src (y.eth_src == z.eth_src) z.eth_src port h tag _ ∙
    acted-dst (y.eth_dst == z.eth_dst) z.eth_dst port (src (y.eth_src == z.eth_src) z.eth_src h) tag _ ∙
    acted-nw_src (y.ip4_src == z.ip4_src) z.ip4_src port (dst (y.eth_dst == z.eth_dst) z.eth_dst (src (y.eth_src == z.eth_src) z.eth_src h)) tag _ ∙
    acted-nw_dst (y.ip4_dst == z.ip4_dst) z.ip4_dst port (nw_src (y.ip4_src == z.ip4_src) z.ip4_src (dst (y.eth_dst == z.eth_dst) z.eth_dst (src (y.eth_src == z.eth_src) z.eth_src h))) tag _ ∙
    acted-tp_src (y.tcp_src_port == z.tcp_src_port) z.tcp_src_port port (nw_dst (y.ip4_dst == z.ip4_dst) z.ip4_dst (nw_src (y.ip4_src == z.ip4_src) z.ip4_src (dst (y.eth_dst == z.eth_dst) z.eth_dst (src (y.eth_src == z.eth_src) z.eth_src h)))) tag _ ∙
    acted-tp_dst (y.tcp_dst_port == z.tcp_dst_port) z.tcp_dst_port port (tp_src (y.tcp_src_port == z.tcp_src_port) z.tcp_src_port (nw_dst (y.ip4_dst == z.ip4_dst) z.ip4_dst (nw_src (y.ip4_src == z.ip4_src) z.ip4_src (dst (y.eth_dst == z.eth_dst) z.eth_dst (src (y.eth_src == z.eth_src) z.eth_src h))))) tag rest

-- a field becomes the wanted one
over_pick : (m n q : ℕ) → (m ≢ unset → n ≢ unset) → cond (m == n) (pick m q) n ≡ pick n q
over_pick m n q h = elim (eqb_tells m n) [
  | inl y ↦ ap (λ b. cond b (pick m q) n) y.0 ∙ ap (λ k. pick k q) y.1
  | inr o ↦ ap (λ b. cond b (pick m q) n) o.0 ∙ sym (pick_fixed n q (n_fixed (m == unset) refl o.1))
]
  where
    n_fixed : (b : Bool) → (m == unset) ≡ b → m ≢ n → n ≢ unset
    n_fixed true e d k = d (eqb-true _ _ e ∙ sym k)
    n_fixed false e d k = h (eqb-false _ _ e) k

filled_over : (y z p : Packet) → Keeps y z → y.header.eth_typ ≡ z.header.eth_typ → y.header.ip_proto ≡ z.header.ip_proto → over y.header z.header (fill y p).header ≡ (fill z p).header
filled_over y z p k e f = λ i. record {
  eth_typ = pick (e i) p.header.eth_typ;
  ip_proto = pick (f i) p.header.ip_proto;
  eth_src = over_pick y.header.eth_src z.header.eth_src p.header.eth_src (k.each EthSrc (inl refl)) i;
  eth_dst = over_pick y.header.eth_dst z.header.eth_dst p.header.eth_dst (k.each EthDst (inr (inl refl))) i;
  ip4_src = over_pick y.header.ip4_src z.header.ip4_src p.header.ip4_src (k.each Ip4Src (inr (inr (inl refl)))) i;
  ip4_dst = over_pick y.header.ip4_dst z.header.ip4_dst p.header.ip4_dst (k.each Ip4Dst (inr (inr (inr (inl refl))))) i;
  tcp_src_port = over_pick y.header.tcp_src_port z.header.tcp_src_port p.header.tcp_src_port (k.each TcpSrcPort (inr (inr (inr (inr (inl refl)))))) i;
  tcp_dst_port = over_pick y.header.tcp_dst_port z.header.tcp_dst_port p.header.tcp_dst_port (k.each TcpDstPort (inr (inr (inr (inr (inr (inl refl))))))) i;
}

-- the header turns from what y knows into what z knows
acted_changed : (y z p : Packet) (port : ℕ) (tag : Option ℕ) (rest : List Action) → Keeps y z → y.header.eth_typ ≡ z.header.eth_typ → y.header.ip_proto ≡ z.header.ip_proto →
    acted (changed y z settable ++ rest) (inc port (fill y p).header tag) ≡ acted rest (inc port (fill z p).header tag)
acted_changed y z p port tag rest k e f =
    ap (λ (l : List Action). acted l (inc port (fill y p).header tag)) (in_row y z rest) ∙
    acted-six y.header z.header port (fill y p).header tag rest ∙
    ap (λ (h : Header). acted rest (inc port h tag)) (filled_over y z p k e f)

-- the tag turns from that of one kind of port into that of another
acted_retagged : (stamp : ℕ) (j k : PortKind) (port : ℕ) (h : Header) (rest : List Action) → IsVlanId stamp → acted (retagged stamp j k ++ rest) (inc port h (port_tag j stamp)) ≡ acted rest (inc port h (port_tag k stamp))
acted_retagged stamp Edge Edge port h rest s = refl
acted_retagged stamp Edge Linked port h rest s =
    ap (λ b. acted rest (inc port h (cond b (Some stamp) None))) (ap (λ b. b && nat_le stamp 4094) (le-leb 1 stamp s.0) ∙ le-leb stamp 4094 s.1)
acted_retagged stamp Linked Edge port h rest s = refl
acted_retagged stamp Linked Linked port h rest s = refl

-- a copy leaves by its port
out_number : (v : PortView) (n : ℕ) → (n ≡ v.pt) ⊎ ((1 ≤ n) × (n ≤ 65279)) → (b : Bool) → (n == v.pt) ≡ b → out_port (cond b 65528 n) v.pt ≡ Some n
out_number v n h true e = ap Some (sym (eqb-true _ _ e))
out_number v n h false e =
    let r : (1 ≤ n) × (n ≤ 65279) = elim h [ inl k ↦ absurd (eqb-false _ _ e k) | inr r ↦ r ] in
    let o : n ≢ 65528 = λ (k : n ≡ 65528). omega (arith, k, r.1) in
    ap (λ b. cond b (Some v.pt) (cond (nat_le 1 n && nat_le n 65279 && not (n == v.pt)) (Some n) None)) (ne_eqb n 65528 o) ∙
    ap (λ b. cond (b && nat_le n 65279 && not (n == v.pt)) (Some n) None) (le-leb 1 n r.0) ∙
    ap (λ b. cond (b && not (n == v.pt)) (Some n) None) (le-leb n 65279 r.1) ∙
    ap (λ b. cond (not b) (Some n) None) e

-- a port by which copies may leave: the view's own, or one of a packet
abbrev pub IsOut : PortView → Route → Type 0
IsOut v r = (r.port ≡ v.pt) ⊎ ((1 ≤ r.port) × (r.port ≤ 65279))

pub acted_listed : (v : PortView) (x y p : Packet) (k : PortKind) (rs : List Route) → IsVlanId v.stamp → Agrees x p → y.header.eth_typ ≡ x.header.eth_typ → y.header.ip_proto ≡ x.header.ip_proto →
    ((r : Route) → IsIn rs r → IsOut v r × CopyCanBeSet r.copy) → Climbs x y rs →
    acted (listed v x y k rs) (inc v.pt (fill y p).header (port_tag k v.stamp)) ≡ map (sent_route v p) rs
acted_listed v x y p k [] s a e f g c = refl
acted_listed v x y p k (r ∷ rs) s a e f g c =
    let ez : (apply r.copy x).header.eth_typ ≡ x.header.eth_typ = never_set r.copy x EthTyp not_typ (g r (inl refl)).1 in
    let fz : (apply r.copy x).header.ip_proto ≡ x.header.ip_proto = never_set r.copy x IpProto not_proto (g r (inl refl)).1 in
    let now : fill (apply r.copy x) p ≡ apply r.copy p = fill_apply r.copy x p ∙ ap (apply r.copy) (fill_own x p a) in
    acted_changed y (apply r.copy x) p v.pt (port_tag k v.stamp) (retagged v.stamp k r.kind ++ Output (port_number v r.port) ∷ listed v x (apply r.copy x) r.kind rs) (keeps_of y (apply r.copy x) c.0) (e ∙ sym ez) (f ∙ sym fz) ∙
    acted_retagged v.stamp k r.kind v.pt (fill (apply r.copy x) p).header (Output (port_number v r.port) ∷ listed v x (apply r.copy x) r.kind rs) s ∙
    ap (λ (o : Option ℕ). sent_to o (inc v.pt (fill (apply r.copy x) p).header (port_tag r.kind v.stamp)) ++ acted (listed v x (apply r.copy x) r.kind rs) (inc v.pt (fill (apply r.copy x) p).header (port_tag r.kind v.stamp)))
    (out_number v r.port (g r (inl refl)).0 (r.port == v.pt) refl) ∙
    ap (λ (q : Packet). record { port = r.port; header = q.header; tag = port_tag r.kind v.stamp } ∷ acted (listed v x (apply r.copy x) r.kind rs) (inc v.pt (fill (apply r.copy x) p).header (port_tag r.kind v.stamp))) now ∙
    ap (λ (l : List SentPacket). sent_route v p r ∷ l) (acted_listed v x (apply r.copy x) p r.kind rs s a ez fz (λ t i. g t (inr i)) c.1)
