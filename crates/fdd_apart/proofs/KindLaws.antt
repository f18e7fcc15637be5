-- Kinds of frames, and diagrams on their packets.
use Rattle.std.specs.Prelude.{Result, Ok, Err, OnOk}
use Rattle.std.proofs.Common.{rules, ◌≡◌, ℕ, ◌≤◌, inl, inr, refl, sym, ap, subst, ◌∙◌, List, [], ◌∷◌, Bool, true, arith}
use Rattle.std.proofs.lemmas.Bool.Decides.{eqb_tells}
use Rattle.nk_values.specs.declared.field.Field.{Field}
use Rattle.nk_values.specs.declared.field.Field.TheVariants.{EthTyp, IpProto, TcpSrcPort, TcpDstPort}
use Rattle.nk_values.specs.declared.packet.Packet.{Packet}
use Rattle.nk_values.specs.declared.lit.Lit.{Lit}
use Rattle.nk_values.specs.Held.{Holds}
use Rattle.nk_values.specs.Lits.{lit_field, lit_value}
use Rattle.nk_values.specs.Members.{IsIn}
use Rattle.nk_values.specs.Packets.{get}
use Rattle.nk_values.specs.Ranges.{IsValue, place}
use Rattle.fdd_nodes.specs.Cells.{IsUnset}
use Rattle.fdd_nodes.specs.Known.{Bars}
use Rattle.fdd_nodes.specs.Names.{IsFew, literals}
use Rattle.fdd_nodes.specs.Trees.{Tree, Leaf, Node, Tests}
use Rattle.fdd_nodes.proofs.CellLaws.{holds_fixed, get-open}
use Rattle.fdd_nodes.proofs.NameLaws.{count_within, named}
use Rattle.fdd_differ.specs.declared.frame.Frame.{Frame}
use Rattle.fdd_differ.specs.declared.frame.Frame.TheVariants.{NoIp, OtherIp, Tcp, Udp}
use Rattle.fdd_differ.specs.Frames.{IsFrame, frame_cell, Leaves}
use Rattle.fdd_differ.specs.Unnamed.{AreFewNames, IsFreshOf}
use Rattle.fdd_differ.proofs.KindLaws.{left_by_kind, kind_by_left}
use Rattle.fdd_differ.proofs.WitnessLaws.{kind_agrees}
use Rattle.fdd_store.specs.contracts.id.IdPartialEq.TheImpl as id_impl
use Rattle.fdd_store.specs.Leaves.{AddsCopies}
use Rattle.fdd_store.specs.Operations.{ChoiceOf}
use Rattle.fdd_store.specs.Stores.{Kept, Has, Gives, Grows, tree_at}
use Rattle.fdd_store.proofs.ForkLaws.{node_then_as, node_else_as}
use Rattle.fdd_store.proofs.LeafLaws.{settles}
use Rattle.fdd_store.proofs.SameLaws.{same_trans}
use Rattle.fdd_store.proofs.StoreLaws.{has_grown, tree_grown, gives_grown}
use Rattle.fdd_apart.specs.Aparts.{AreNamesOf}
use Rattle.fdd_apart.specs.Kinds.{FitsFrame, Restricts, IsRestriction, AreRestrictions}
use Rattle.fdd_apart.specs.Walks.{NamesLit}
use Rattle.fdd_apart.proofs.WalkLaws.{literal_named}

-- ---- what a kind leaves

ip_value : IsValue EthTyp 2048
ip_value = record { low = omega arith; high = omega arith; no_tag = λ e z. omega (arith, z) }

protocol_value : (n : ℕ) → n ≤ 255 → IsValue IpProto n
protocol_value n h = record { low = omega arith; high = h; no_tag = λ e. absurd (let a : place IpProto ≡ place EthTyp = ap place e in omega (arith, a)) }

-- what a kind fixes it leaves, and it is in range
pub fixed_left : (k : Frame) (f : Field) → ¬ IsUnset (frame_cell k) f → Leaves k f (get (frame_cell k) f) × IsValue f (get (frame_cell k) f)
fixed_left NoIp f n = absurd (n (get-open f))
fixed_left OtherIp EthTyp n = (refl, ip_value)
fixed_left Tcp EthTyp n = (refl, ip_value)
fixed_left Udp EthTyp n = (refl, ip_value)
fixed_left Tcp IpProto n = (refl, protocol_value 6 (omega arith))
fixed_left Udp IpProto n = (refl, protocol_value 17 (omega arith))
fixed_left k f n = absurd (n refl)

-- a packet of unnamed values holds what the kind leaves to the other fields
pub unnamed_left : (k : Frame) (f : Field) (ls : List Lit) (g : Packet) → IsFreshOf ls g → IsUnset (frame_cell k) f → Leaves k f (get g f)
unnamed_left NoIp f ls g h o = left_by_kind NoIp g h.no_ip h.shaped f
unnamed_left OtherIp EthTyp ls g h o = absurd (omega (arith, o))
unnamed_left Tcp EthTyp ls g h o = absurd (omega (arith, o))
unnamed_left Udp EthTyp ls g h o = absurd (omega (arith, o))
unnamed_left Tcp IpProto ls g h o = absurd (omega (arith, o))
unnamed_left Udp IpProto ls g h o = absurd (omega (arith, o))
unnamed_left OtherIp IpProto ls g h o = let z = (h.shaped.ip_only h.no_ip).0 in (λ e. omega (arith, e, z), λ e. omega (arith, e, z))
unnamed_left OtherIp TcpSrcPort ls g h o = (h.shaped.no_ports (inl h.no_ip)).0
unnamed_left OtherIp TcpDstPort ls g h o = (h.shaped.no_ports (inl h.no_ip)).1
unnamed_left k f ls g h o = tt

-- a packet of the kind holds what the kind fixes, and nothing that it excludes
kind_holds : (k : Frame) (p : Packet) (m : Lit) → FitsFrame k p → Holds (frame_cell k) m → Holds p m
kind_holds k p m h w = (kind_agrees k p (kind_by_left k p h)).at (lit_field m) (holds_fixed (frame_cell k) m w) ∙ w

kind_bars : (k : Frame) (p : Packet) (m : Lit) → FitsFrame k p → Bars (frame_cell k) m → ¬ Holds p m
kind_bars k p m h b w = b.other (sym ((kind_agrees k p (kind_by_left k p h)).at (lit_field m) b.fixed) ∙ w)

kind_excludes : (k : Frame) (p : Packet) (m : Lit) → FitsFrame k p → ¬ Leaves k (lit_field m) (lit_value m) → ¬ Holds p m
kind_excludes k p m h n w = n (subst (Leaves k (lit_field m)) w (h (lit_field m)))

-- each packet is of one kind
pub kind_of : (p : Packet) → (k : Frame) × IsFrame k p
kind_of p = elim (eqb_tells p.header.eth_typ 2048) [
  | inr n ↦ (NoIp, n.1)
  | inl y ↦ elim (eqb_tells p.header.ip_proto 6) [
    | inl z ↦ (Tcp, (y.1, z.1))
    | inr n ↦ elim (eqb_tells p.header.ip_proto 17) [ inl z ↦ (Udp, (y.1, z.1)) | inr o ↦ (OtherIp, (y.1, n.1, o.1)) ]
  ]
]

-- ---- restrictions

pub restricts_leaf : (k : Frame) (a : Tree) (cs ds : List (List Lit)) → a ≡ Leaf cs → AddsCopies (frame_cell k) cs [] ds → Restricts k a (Leaf ds)
restricts_leaf k a cs ds e h =
    let s = settles (frame_cell k) cs ds h in
    subst (λ (x : Tree). Restricts k x (Leaf ds)) (sym e) (record {
      same = λ p l. s.same p (kind_agrees k p (kind_by_left k p l));
      tests = λ m w. absurd w;
      assigns = s.assigns;
      untold = λ m w. absurd w;
      left = λ m w. absurd w;
      clean = s.fixed;
    })

pub restricts_then : (k : Frame) (l : Lit) (t e a x : Tree) → a ≡ Node l t e → Holds (frame_cell k) l → Restricts k t x → Restricts k a x
restricts_then k l t e a x is w r = subst (λ (y : Tree). Restricts k y x) (sym is) (record {
  same = λ p h. same_trans _ _ _ (r.same p h) (node_then_as l t e p (kind_holds k p l h w));
  tests = λ m v. inr (inl (r.tests m v));
  assigns = λ m v. inl (r.assigns m v);
  untold = r.untold;
  left = r.left;
  clean = r.clean;
})

restricts_else : (k : Frame) (l : Lit) (t e a x : Tree) → a ≡ Node l t e → ((p : Packet) → FitsFrame k p → ¬ Holds p l) → Restricts k e x → Restricts k a x
restricts_else k l t e a x is w r = subst (λ (y : Tree). Restricts k y x) (sym is) (record {
  same = λ p h. same_trans _ _ _ (r.same p h) (node_else_as l t e p (w p h));
  tests = λ m v. inr (inr (r.tests m v));
  assigns = λ m v. inr (r.assigns m v);
  untold = r.untold;
  left = r.left;
  clean = r.clean;
})

pub restricts_barred : (k : Frame) (l : Lit) (t e a x : Tree) → a ≡ Node l t e → Bars (frame_cell k) l → Restricts k e x → Restricts k a x
restricts_barred k l t e a x is b r = restricts_else k l t e a x is (λ p h. kind_bars k p l h b) r

pub restricts_excluded : (k : Frame) (l : Lit) (t e a x : Tree) → a ≡ Node l t e → ¬ Leaves k (lit_field l) (lit_value l) → Restricts k e x → Restricts k a x
restricts_excluded k l t e a x is n r = restricts_else k l t e a x is (λ p h. kind_excludes k p l h n) r

pub restricts_test : (k : Frame) (l : Lit) (t e a x y r : Tree) → a ≡ Node l t e → IsUnset (frame_cell k) (lit_field l) → Leaves k (lit_field l) (lit_value l)
    → Restricts k t x → Restricts k e y → ChoiceOf l x y r → Restricts k a r
restricts_test k l t e a x y r is o v rx ry c =
    let of : (P : Lit → Type 0) → P l → ((m : Lit) → Tests x m → P m) → ((m : Lit) → Tests y m → P m) → (m : Lit) → Tests r m → P m
    = λ P here f g m w. elim (c.tests m w) [ inl e ↦ subst P e here | inr z ↦ elim z [ inl u ↦ f m u | inr u ↦ g m u ] ] in
    subst (λ (z : Tree). Restricts k z r) (sym is) (record {
      same = λ p h. elim (eqb_tells (get p (lit_field l)) (lit_value l)) [
        | inl w ↦ same_trans _ _ _ (c.yes p w.1) (same_trans _ _ _ (rx.same p h) (node_then_as l t e p w.1))
        | inr n ↦ same_trans _ _ _ (c.no p n.1) (same_trans _ _ _ (ry.same p h) (node_else_as l t e p n.1))
      ];
      tests = of (Tests (Node l t e)) (inl refl) (λ m u. inr (inl (rx.tests m u))) (λ m u. inr (inr (ry.tests m u)));
      assigns = λ m w. elim (c.assigns m w) [ inl u ↦ inl (rx.assigns m u) | inr u ↦ inr (ry.assigns m u) ];
      untold = of (λ m. IsUnset (frame_cell k) (lit_field m)) o rx.untold ry.untold;
      left = of (λ m. Leaves k (lit_field m) (lit_value m)) v rx.left ry.left;
      clean = λ m w. elim (c.assigns m w) [ inl u ↦ rx.clean m u | inr u ↦ ry.clean m u ];
    })

-- ---- results that are kept

abbrev pub id_eq : ℕ → ℕ → Bool
id_eq = id_impl.eq-value.it

same_id : (a b : ℕ) → id_eq a b ≡ true → a ≡ b
same_id a b e = search rules

pub any_ok : {X E : Type 0} (r : Result X E) (Q : Type 0) → Q → OnOk r Q
any_ok (Ok x) Q h = h
any_ok (Err e) Q h = tt

pub restriction_to : (k : Frame) (s : Kept) (a b : ℕ) → id_eq a b ≡ true → (r : ℕ) → IsRestriction k s a r → IsRestriction k s b r
restriction_to k s a b e r h = subst (λ (z : ℕ). IsRestriction k s z r) (same_id a b e) h

pub restriction_back : (k : Frame) (s : Kept) (a b : ℕ) → id_eq a b ≡ true → (r : ℕ) → IsRestriction k s b r → IsRestriction k s a r
restriction_back k s a b e r h = subst (λ (z : ℕ). IsRestriction k s z r) (sym (same_id a b e)) h

pub restriction_grown : (k : Frame) (old new : Kept) (a r : ℕ) → Grows old new → Has old a → Gives new r (Restricts k (tree_at old a)) → IsRestriction k new a r
restriction_grown k old new a r g has h = (has_grown old new a g has, subst (λ (t : Tree). Gives new r (Restricts k t)) (sym (tree_grown old new a g has)) h)

pub restrictions_grown : (k : Frame) (old new : Kept) (es : List (ℕ × ℕ)) → Grows old new → AreRestrictions k old es → AreRestrictions k new es
restrictions_grown k old new [] g h = tt
restrictions_grown k old new (x ∷ xs) g h =
    (restriction_grown k old new x.0 x.1 g h.0.0 (gives_grown old new x.1 _ g h.0.1), restrictions_grown k old new xs g h.1)

-- ---- how many literals are named

pub few_as : (r s : Tree) → ((m : Lit) → NamesLit r m → NamesLit s m) → IsFew s → IsFew r
few_as r s f h =
    let c = count_within (literals r) (literals s) (λ m w. literal_named s m (f m (named r m w))) in omega (arith, c, h)

pub few_then : (l : Lit) (t e a : Tree) → a ≡ Node l t e → IsFew a → IsFew t
few_then l t e a is h = few_as t a (λ m w. subst (λ (x : Tree). NamesLit x m) (sym is) (elim w [ inl u ↦ inl (inr (inl u)) | inr u ↦ inr (inl u) ])) h

pub few_else : (l : Lit) (t e a : Tree) → a ≡ Node l t e → IsFew a → IsFew e
few_else l t e a is h = few_as e a (λ m w. subst (λ (x : Tree). NamesLit x m) (sym is) (elim w [ inl u ↦ inl (inr (inr u)) | inr u ↦ inr (inr u) ])) h

pub few_choice : (k : Frame) (l : Lit) (t e a x y : Tree) → a ≡ Node l t e → Restricts k t x → Restricts k e y → IsFew a → IsFew (Node l x y)
few_choice k l t e a x y is rx ry h = few_as (Node l x y) a (λ m w. subst (λ (z : Tree). NamesLit z m) (sym is) (elim w [
  | inl u ↦ inl (elim u [ inl i ↦ inl i | inr v ↦ inr (elim v [ inl z ↦ inl (rx.tests m z) | inr z ↦ inr (ry.tests m z) ]) ])
  | inr u ↦ inr (elim u [ inl z ↦ inl (rx.assigns m z) | inr z ↦ inr (ry.assigns m z) ])
])) h

pub few_named : (names : List Lit) (a : Tree) → AreFewNames names → AreNamesOf names a → IsFew a
few_named names a few h =
    let c = count_within (literals a) names (λ m w. elim (named a m w) [ inl u ↦ h.tests m u | inr u ↦ h.assigns m u ]) in
    let b = few.bound in
    omega (arith, c, b)

pub restriction_names : (k : Frame) (names : List Lit) (a x : Tree) → AreNamesOf names a → Restricts k a x → (m : Lit) → NamesLit x m → IsIn names m
restriction_names k names a x h r m w = elim w [ inl u ↦ h.tests m (r.tests m u) | inr u ↦ h.assigns m (r.assigns m u) ]
