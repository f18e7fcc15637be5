-- Packets without what is barred, and diagrams that give none of their packets twice.
use Rattle.std.proofs.Common.{◌≡◌, ℕ, ◌⊎◌, inl, inr, refl, ap, sym, ◌∙◌, subst, List, [], ◌∷◌}
use Rattle.std.proofs.lemmas.Bool.Decides.{eqb_tells}
use Rattle.nk_values.specs.declared.field.Field.{Field}
use Rattle.nk_values.specs.declared.field.Field.TheVariants.{Sw, Pt, EthTyp, IpProto, EthSrc, EthDst, Ip4Src, Ip4Dst, TcpSrcPort, TcpDstPort}
use Rattle.nk_values.specs.declared.packet.Packet.{Packet}
use Rattle.nk_values.specs.declared.lit.Lit.{Lit}
use Rattle.nk_values.specs.Held.{Holds}
use Rattle.nk_values.specs.Lits.{lit_field}
use Rattle.nk_values.specs.Members.{IsIn, EachOnce}
use Rattle.nk_values.specs.Packets.{get}
use Rattle.nk_values.specs.Ranges.{place}
use Rattle.nk_values.proofs.PacketLaws.{field_cases}
use Rattle.fdd_nodes.specs.Trees.{Tree, Leaf, Node, leaf_at, answers, Tests, Assigns}
use Rattle.fdd_nodes.specs.Cells.{unset}
use Rattle.fdd_nodes.proofs.CellLaws.{lit_not_free}
use Rattle.fdd_store.specs.Canonical.{AreProper, IsProper}
use Rattle.fdd_store.proofs.MoveLaws.{one_leaf}
use Rattle.fdd_split.specs.declared.bars.Bar.{Bar}
use Rattle.fdd_split.specs.declared.bars.Bar.TheVariants.{OfField, Literal}
use Rattle.fdd_split.specs.Bars.{SomeBars}
use Rattle.fdd_split.specs.Divides.{Divides}
use Rattle.fdd_split.specs.Threats.{HasNoThreat}
use Rattle.fdd_split.proofs.AnswerLaws.{holds_or, alone_assigned}
use Rattle.fdd_split.proofs.CopyLaws.{moved, one_held}
use Rattle.fdd_split.proofs.ThreatLaws.{threat_free}
use Rattle.fdd_split.proofs.OrderLaws.{IsReady, IsUnbarred, ready_then, ready_else, ready_part, ready_rest}
use Rattle.fdd_split.proofs.TidyLaws.{copies_one, leaf_proper, once_in}

-- a literal of the field that the packet holds is barred
record Caught (k : List Bar) (p : Packet) (f : Field) : Type 0 where
  always : (y : Lit) → lit_field y ≡ f → Holds p y → SomeBars k y

caught_or : (k : List Bar) (p : Packet) (f : Field) → Caught k p f ⊎ ((y : Lit) → lit_field y ≡ f → Holds p y → ¬ SomeBars k y)
caught_or [] p f = inr (λ y e h b. b)
caught_or (OfField n ∷ k) p f = elim (eqb_tells (place f) n) [
  | inl s ↦ inl (record { always = λ y e h. inl (ap place e ∙ s.1) })
  | inr d ↦ elim (caught_or k p f) [
    | inl c ↦ inl (record { always = λ y e h. inr (c.always y e h) })
    | inr c ↦ inr (λ y e h b. elim b [ inl z ↦ d.1 (sym (ap place e) ∙ z) | inr z ↦ c y e h z ])
  ]
]
caught_or (Literal m ∷ k) p f = elim (field_cases (lit_field m) f) [
  | inl s ↦ elim (holds_or p m) [
    | inl y ↦ inl (record { always = λ z e h. inl (one_held p m z (s ∙ sym e) y h) })
    | inr n ↦ elim (caught_or k p f) [
      | inl c ↦ inl (record { always = λ y e h. inr (c.always y e h) })
      | inr c ↦ inr (λ y e h b. elim b [ inl z ↦ n (subst (λ (v : Lit). Holds p v) (sym z) h) | inr z ↦ c y e h z ])
    ]
  ]
  | inr d ↦ elim (caught_or k p f) [
    | inl c ↦ inl (record { always = λ y e h. inr (c.always y e h) })
    | inr c ↦ inr (λ y e h b. elim b [ inl z ↦ d (ap (λ (v : Lit). lit_field v) z ∙ e) | inr z ↦ c y e h z ])
  ]
]

-- the packet's number, or none where what it holds is barred
record Kept (k : List Bar) (p : Packet) (f : Field) : Type 0 where
  value : ℕ
  which : ((value ≡ unset) × Caught k p f) ⊎ ((value ≡ get p f) × ((y : Lit) → lit_field y ≡ f → Holds p y → ¬ SomeBars k y))

kept : (k : List Bar) (p : Packet) (f : Field) → Kept k p f
kept k p f = elim (caught_or k p f) [
  | inl c ↦ record { value = unset; which = inl (refl, c) }
  | inr c ↦ record { value = get p f; which = inr (refl, c) }
]

cleaned : List Bar → Packet → Packet
cleaned k p = record {
  sw = (kept k p Sw).value;
  pt = (kept k p Pt).value;
  header = record {
    eth_typ = (kept k p EthTyp).value;
    ip_proto = (kept k p IpProto).value;
    eth_src = (kept k p EthSrc).value;
    eth_dst = (kept k p EthDst).value;
    ip4_src = (kept k p Ip4Src).value;
    ip4_dst = (kept k p Ip4Dst).value;
    tcp_src_port = (kept k p TcpSrcPort).value;
    tcp_dst_port = (kept k p TcpDstPort).value;
  };
}

get-cleaned : (k : List Bar) (p : Packet) (f : Field) → get (cleaned k p) f ≡ (kept k p f).value
unfolding cleaned
get-cleaned k p Sw = refl
get-cleaned k p Pt = refl
get-cleaned k p EthTyp = refl
get-cleaned k p IpProto = refl
get-cleaned k p EthSrc = refl
get-cleaned k p EthDst = refl
get-cleaned k p Ip4Src = refl
get-cleaned k p Ip4Dst = refl
get-cleaned k p TcpSrcPort = refl
get-cleaned k p TcpDstPort = refl

cleaned_holds : (k : List Bar) (p : Packet) (y : Lit) → Holds p y → ¬ SomeBars k y → Holds (cleaned k p) y
cleaned_holds k p y h n = elim (kept k p (lit_field y)).which [
  | inl w ↦ absurd (n (w.1.always y refl h))
  | inr w ↦ get-cleaned k p (lit_field y) ∙ w.0 ∙ h
]

cleaned_held : (k : List Bar) (p : Packet) (y : Lit) → Holds (cleaned k p) y → Holds p y × (¬ SomeBars k y)
cleaned_held k p y h = elim (kept k p (lit_field y)).which [
  | inl w ↦ absurd (lit_not_free y (sym h ∙ get-cleaned k p (lit_field y) ∙ w.0))
  | inr w ↦
      let z : Holds p y = sym w.0 ∙ sym (get-cleaned k p (lit_field y)) ∙ h in
      (z, w.1 y refl z)
]

-- what is divided tests nothing that is barred
pub unbarred_of : (r : Tree) (k : List Bar) (a : Tree) (n : ℕ) → IsReady k a n → Divides k a r → IsUnbarred k r
unbarred_of (Leaf cs) k a n w d m h = absurd h
unbarred_of (Node l t e) k a n w (inl d) m h = w.unbarred m (subst (λ (x : Tree). Tests x m) (sym d.1) h)
unbarred_of (Node l t e) k a n w (inr (inl b)) m (inl s) =
    subst (λ (x : Lit). ¬ SomeBars k x) s (w.unbarred l (subst (λ (x : Tree). Tests x l) (sym b.is) (inl refl)))
unbarred_of (Node l t e) k a n w (inr (inl b)) m (inr (inl h)) =
    λ z. unbarred_of t b.yes_bars b.yes _ (ready_then k a n w l t e b) b.then_is m h (b.yes_narrows.kept m z)
unbarred_of (Node l t e) k a n w (inr (inl b)) m (inr (inr h)) =
    λ z. unbarred_of e b.no_bars b.no _ (ready_else k a n w l t e b) b.else_is m h (b.no_narrows.kept m z)
unbarred_of (Node l t e) k a n w (inr (inr d)) m (inl s) =
    subst (λ (x : Lit). ¬ SomeBars k x) s (threat_free k a l w.made.proper d.threat)
unbarred_of (Node l t e) k a n w (inr (inr d)) m (inr (inl h)) =
    λ z. unbarred_of t _ d.part _ (ready_part k a n w l t e d) d.then_is m h (d.yes_narrows.kept m z)
unbarred_of (Node l t e) k a n w (inr (inr d)) m (inr (inr h)) =
    λ z. unbarred_of e _ a _ (ready_rest k a n w l t e d) d.else_is m h (d.no_narrows.kept m z)

-- on a packet that holds nothing barred of what is assigned
pub once_on : (r : Tree) (k : List Bar) (q : Packet) → AreProper r → HasNoThreat k r → IsUnbarred k r → ((y : Lit) → Assigns r y → SomeBars k y → ¬ Holds q y) → EachOnce (answers r q)
once_on r k q h n u avoid =
    let pr : IsProper (leaf_at r q) = leaf_proper r q h in
    let p : Packet = cleaned k q in
    let leaf : leaf_at r q ≡ leaf_at r p = one_leaf r q p (λ m t. ((λ w. cleaned_holds k q m w (u m t)), λ w. (cleaned_held k q m w).0)) in
    once_in (leaf_at r q) q pr.rising
    (λ c d i j e. copies_one c d q (pr.copies c i) (pr.copies d j) e
    (λ x a. n x (record {
      packet = p;
      clear = λ y b w. (cleaned_held k q y w).1 b;
      one = c;
      other = d;
      has_one = subst (λ (z : List (List Lit)). IsIn z c) leaf i;
      has_other = subst (λ (z : List (List Lit)). IsIn z d) leaf j;
      same = moved c d q p (pr.copies c i) (pr.copies d j) e (λ y al w. cleaned_holds k q y w (λ b. avoid y (alone_assigned r q c d y i j al) b w));
      alone = a;
    })))
