-- Threats of what is left of a diagram where a literal holds.
use Rattle.std.proofs.Common.{◌≡◌, ◌≢◌, ◌⊎◌, inl, inr, refl, ap, sym, ◌∙◌, subst, arith, List}
use Rattle.nk_values.specs.declared.field.Field.{Field}
use Rattle.nk_values.specs.declared.packet.Packet.{Packet}
use Rattle.nk_values.specs.declared.lit.Lit.{Lit}
use Rattle.nk_values.specs.Held.{Holds, put}
use Rattle.nk_values.specs.Lits.{lit_field, lit_value}
use Rattle.nk_values.specs.Members.{IsIn}
use Rattle.nk_values.specs.Packets.{get, with_value}
use Rattle.nk_values.specs.Ranges.{place}
use Rattle.nk_values.proofs.LitLaws.{same_lit}
use Rattle.nk_values.proofs.PacketLaws.{get-with_same, get-with_other, same_packet, field_cases}
use Rattle.fdd_nodes.specs.Trees.{Tree, Leaf, Node, leaf_at, apply, Tests, Assigns}
use Rattle.fdd_nodes.specs.Cells.{unset}
use Rattle.fdd_nodes.specs.Copies.{IsCopy}
use Rattle.fdd_nodes.proofs.CellLaws.{lit_not_free}
use Rattle.fdd_nodes.proofs.MakesLaws.{Source, source, outcome}
use Rattle.fdd_nodes.proofs.SplitLaws.{leaf_at-then, leaf_at-else}
use Rattle.fdd_store.specs.Canonical.{IsCanonical, AreProper}
use Rattle.fdd_store.specs.Results.{Cuts}
use Rattle.fdd_store.proofs.MadeLaws.{made_then, made_else, then_beyond}
use Rattle.fdd_store.proofs.MoveLaws.{leaf_assigns}
use Rattle.fdd_split.specs.declared.bars.Bar.{Bar}
use Rattle.fdd_split.specs.declared.bars.Bar.TheVariants.{OfField}
use Rattle.fdd_split.specs.Bars.{SomeBars, Narrows}
use Rattle.fdd_split.specs.Threats.{Threat, IsAlone, IsClear, KeepsField}
use Rattle.fdd_split.proofs.AnswerLaws.{holds_or, alone_assigned}
use Rattle.fdd_split.proofs.CopyLaws.{field_of, leaves_value, sets_value, set_value, moved_at, local, holds_other, held_other, not_free, one_held, held}
use Rattle.fdd_split.proofs.ThreatLaws.{leaf_copy, leaf_other}

-- a packet without a literal that its leaf assigns comes to the same leaf
pub leaf_without : (t : Tree) (p : Packet) (x : Lit) (c : List Lit) → IsCanonical t → Holds p x → IsIn (leaf_at t p) c → IsIn c x → leaf_at t p ≡ leaf_at t (with_value p (lit_field x) unset)
leaf_without (Leaf cs) p x c h y k w = refl
leaf_without (Node l t e) p x c h y k w = elim (holds_or p l) [
  | inl v ↦
      let in_then : IsIn (leaf_at t p) c = subst (λ (z : List (List Lit)). IsIn z c) (leaf_at-then l t e p v) k in
      elim (field_cases (lit_field x) (lit_field l)) [
        | inl s ↦
            absurd ((then_beyond l t e h).clean (subst (λ (z : Lit). Assigns t z) (one_held p x l s y v) (leaf_assigns t p c x in_then w)))
        | inr d ↦
            leaf_at-then l t e p v ∙ leaf_without t p x c (made_then l t e h) y in_then w
            ∙ sym (leaf_at-then l t e (with_value p (lit_field x) unset) (holds_other p (lit_field x) unset l d v))
      ]
  | inr n ↦
      let in_else : IsIn (leaf_at e p) c = subst (λ (z : List (List Lit)). IsIn z c) (leaf_at-else l t e p n) k in
      let n' : ¬ Holds (with_value p (lit_field x) unset) l = λ z. elim (field_cases (lit_field x) (lit_field l)) [
        | inl s ↦ not_free p (lit_field x) l s z
        | inr d ↦ n (held_other p (lit_field x) unset l d z)
      ] in
      leaf_at-else l t e p n ∙ leaf_without e p x c (made_else l t e h) y in_else w
      ∙ sym (leaf_at-else l t e (with_value p (lit_field x) unset) n')
]

-- a packet with a literal comes to the leaf of the packet without a number there, unless the literal is tested
pub leaf_with : (t : Tree) (p : Packet) (x : Lit) → get p (lit_field x) ≡ unset → (leaf_at t p ≡ leaf_at t (put x p)) ⊎ Tests t x
leaf_with (Leaf cs) p x f = inl refl
leaf_with (Node l t e) p x f = elim (field_cases (lit_field x) (lit_field l)) [
  | inl s ↦
      let n : ¬ Holds p l = λ h. lit_not_free l (sym h ∙ ap (λ g. get p g) (sym s) ∙ f) in
      elim (holds_or (put x p) l) [
        | inl y ↦
            let v : lit_value x ≡ lit_value l = sym (get-with_same p (lit_field x) (lit_value x)) ∙ ap (λ g. get (put x p) g) s ∙ y in
            inr (inl (sym (same_lit x l s v)))
        | inr m ↦ elim (leaf_with e p x f) [
          | inl k ↦ inl (leaf_at-else l t e p n ∙ k ∙ sym (leaf_at-else l t e (put x p) m))
          | inr k ↦ inr (inr (inr k))
        ]
      ]
  | inr d ↦ elim (holds_or p l) [
    | inl y ↦ elim (leaf_with t p x f) [
      | inl k ↦ inl (leaf_at-then l t e p y ∙ k ∙ sym (leaf_at-then l t e (put x p) (holds_other p (lit_field x) (lit_value x) l d y)))
      | inr k ↦ inr (inr (inl k))
    ]
    | inr n ↦ elim (leaf_with e p x f) [
      | inl k ↦
          inl (leaf_at-else l t e p n ∙ k ∙ sym (leaf_at-else l t e (put x p) (λ z. n (held_other p (lit_field x) (lit_value x) l d z))))
      | inr k ↦ inr (inr (inr k))
    ]
  ]
]

-- copies of the packet q, which holds x, as they are of the packet p, which holds nothing there
module _ (a : Tree) (p : Packet) (x : Lit) (c d c2 d2 : List Lit) (bare : get p (lit_field x) ≡ unset) (hc2 : IsCopy c2) (hd2 : IsCopy d2) (e : apply c2 p ≡ apply c p) (g : apply d2 p ≡ apply d p) (at_x : get (apply c p) (lit_field x) ≡ lit_value x) (own : get (apply d p) (lit_field x) ≡ unset) (rest : (f : Field) → lit_field x ≢ f → get (apply c p) f ≡ get (apply d p) f) where
  sets_x : IsIn c2 x
  sets_x = elim (field_of c2 (lit_field x)) [
    | inl s ↦
        let v : lit_value s.lit ≡ lit_value x = sym (set_value c2 (lit_field x) s p hc2) ∙ ap (λ z. get z (lit_field x)) e ∙ at_x in
        subst (λ (z : Lit). IsIn c2 z) (same_lit s.lit x s.field v) s.among
    | inr h ↦ absurd (lit_not_free x (sym at_x ∙ sym (ap (λ z. get z (lit_field x)) e) ∙ leaves_value c2 (lit_field x) p h ∙ bare))
  ]

  leaves_x : KeepsField d2 (lit_field x)
  leaves_x = elim (field_of d2 (lit_field x)) [
    | inl s ↦ absurd (lit_not_free s.lit (sym (set_value d2 (lit_field x) s p hd2) ∙ ap (λ z. get z (lit_field x)) g ∙ own))
    | inr h ↦ h
  ]

  pub still_alone : IsAlone c2 d2 x
  still_alone = inl (sets_x, leaves_x)

  pub still_one : apply c2 (put x p) ≡ apply d2 (put x p)
  still_one = same_packet _ _ (λ f. elim (field_cases (lit_field x) f) [
    | inl s ↦ subst (λ (z : Field). get (apply c2 (put x p)) z ≡ get (apply d2 (put x p)) z) s
        (sets_value c2 0 x (put x p) hc2 sets_x ∙ sym (get-with_same p (lit_field x) (lit_value x)) ∙ sym (leaves_value d2 (lit_field x) (put x p) leaves_x))
    | inr n ↦
        let o : get (put x p) f ≡ get p f = get-with_other p (lit_field x) f (lit_value x) n in
        local c2 f (put x p) p hc2 o ∙ ap (λ z. get z f) e ∙ rest f n ∙ sym (ap (λ z. get z f) g) ∙ sym (local d2 f (put x p) p hd2 o)
  ])

-- a threat of what is left is one of the whole, or tested there
module _ (k bars : List Bar) (l : Lit) (a u : Tree) (x : Lit) (cut : Cuts l a u) (hu : IsCanonical u) (pa : AreProper a) (un : ¬ SomeBars k l) (w : Narrows k bars (OfField (place (lit_field l))) u) where
  -- the first copy assigns x, and the second leaves its field
  narrowed_by : (p : Packet) (c d : List Lit) → IsClear bars p → IsIn (leaf_at u p) c → IsIn (leaf_at u p) d → apply c p ≡ apply d p → IsIn c x → KeepsField d (lit_field x) → Threat k a x ⊎ Tests a x
  narrowed_by p c d clear hc hd one sets leaves =
      let cc : IsCopy c = leaf_copy u p c hu.proper hc in
      let cd : IsCopy d = leaf_copy u p d hu.proper hd in
      let hx : Holds p x = held c d p x cc cd one (inl (sets, leaves)) in
      let apart : lit_field l ≢ lit_field x = λ s. clear x (w.has x (alone_assigned u p c d x hc hd (inl (sets, leaves))) (ap place (sym s))) hx in
      let p0 : Packet = with_value p (lit_field x) unset in
      let q : Packet = put l p0 in
      let hl : Holds q l = get-with_same p0 (lit_field l) (lit_value l) in
      let bare : get q (lit_field x) ≡ unset = get-with_other p0 (lit_field l) (lit_field x) (lit_value l) apart ∙ get-with_same p (lit_field x) unset in
      let past : (m : Lit) → Tests u m → lit_field l ≢ lit_field m = λ m t s. let o = cut.beyond.past m t in let v : place (lit_field l) ≡ place (lit_field m) = ap place s in omega (arith, o, v) in
      let leaf : leaf_at u p ≡ leaf_at u q = leaf_without u p x c hu hx hc sets ∙ leaf_other u p0 (lit_field l) (lit_value l) past in
      let qc : IsIn (leaf_at u q) c = subst (λ (z : List (List Lit)). IsIn z c) leaf hc in
      let qd : IsIn (leaf_at u q) d = subst (λ (z : List (List Lit)). IsIn z d) leaf hd in
      let s1 : Source (leaf_at a q) q (apply c q) = source (leaf_at a q) q (apply c q) ((cut.same q hl).front _ (outcome (leaf_at u q) c q qc)) in
      let s2 : Source (leaf_at a q) q (apply d q) = source (leaf_at a q) q (apply d q) ((cut.same q hl).front _ (outcome (leaf_at u q) d q qd)) in
      let c1 : IsCopy s1.copy = leaf_copy a q s1.copy pa s1.among in
      let c2 : IsCopy s2.copy = leaf_copy a q s2.copy pa s2.among in
      let at_x : get (apply c q) (lit_field x) ≡ lit_value x = sets_value c 0 x q cc sets in
      let own : get (apply d q) (lit_field x) ≡ unset = leaves_value d (lit_field x) q leaves ∙ bare in
      let rest : (f : Field) → lit_field x ≢ f → get (apply c q) f ≡ get (apply d q) f = λ f n. moved_at c d p q f cc cd one
      (λ y al g. let hy : Holds p y = held c d p y cc cd one al in
      let n1 : lit_field x ≢ lit_field y = λ s. n (s ∙ g) in
      let n2 : lit_field l ≢ lit_field y = λ s. clear y (w.has y (alone_assigned u p c d y hc hd al) (ap place (sym s))) hy in
      holds_other p0 (lit_field l) (lit_value l) y n2 (holds_other p (lit_field x) unset y n1 hy)) in
      elim (leaf_with a q x bare) [
        | inl same ↦ inl (record {
          packet = put x q;
          clear = λ y b v. elim (field_cases (lit_field x) (lit_field y)) [
            | inl s ↦
                clear x (w.kept x (subst (λ (z : Lit). SomeBars k z) (sym (one_held (put x q) x y s (get-with_same q (lit_field x) (lit_value x)) v)) b)) hx
            | inr d1 ↦
                let wq : Holds q y = held_other q (lit_field x) (lit_value x) y d1 v in
                elim (field_cases (lit_field l) (lit_field y)) [
                  | inl s ↦ un (subst (λ (z : Lit). SomeBars k z) (sym (one_held q l y s hl wq)) b)
                  | inr d2 ↦
                      clear y (w.kept y b) (held_other p (lit_field x) unset y d1 (held_other p0 (lit_field l) (lit_value l) y d2 wq))
                ]
          ];
          one = s1.copy;
          other = s2.copy;
          has_one = subst (λ (z : List (List Lit)). IsIn z s1.copy) same s1.among;
          has_other = subst (λ (z : List (List Lit)). IsIn z s2.copy) same s2.among;
          same = still_one a q x c d s1.copy s2.copy bare c1 c2 s1.makes s2.makes at_x own rest;
          alone = still_alone a q x c d s1.copy s2.copy bare c1 c2 s1.makes s2.makes at_x own rest;
        })
        | inr t ↦ inr t
      ]

  pub narrowed : Threat bars u x → Threat k a x ⊎ Tests a x
  narrowed h = elim h.alone [
    | inl s ↦ narrowed_by h.packet h.one h.other h.clear h.has_one h.has_other h.same s.0 s.1
    | inr s ↦ narrowed_by h.packet h.other h.one h.clear h.has_other h.has_one (sym h.same) s.0 s.1
  ]
