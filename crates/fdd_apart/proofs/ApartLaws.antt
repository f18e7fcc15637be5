-- A packet that shows two diagrams apart, and why there is none where there is no cell.
use Rattle.std.proofs.Common.{◌≡◌, ℕ, ◌⊎◌, inl, inr, sym, subst, ◌∙◌, List, Option, Some, None, MatchOption}
use Rattle.nk_values.specs.declared.field.Field.{Field}
use Rattle.nk_values.specs.declared.packet.Packet.{Packet}
use Rattle.nk_values.specs.declared.lit.Lit.{Lit}
use Rattle.nk_values.specs.Held.{Holds}
use Rattle.nk_values.specs.Lits.{lit_field, lit_value}
use Rattle.nk_values.specs.Members.{IsIn, Within}
use Rattle.nk_values.specs.Packets.{get, IsWellShaped}
use Rattle.nk_values.specs.Ranges.{IsValue}
use Rattle.nk_values.proofs.LitLaws.{lit_is_value}
use Rattle.fdd_nodes.specs.Cells.{Agrees, whole_cell, fill}
use Rattle.fdd_nodes.specs.Makes.{MakesAll}
use Rattle.fdd_nodes.specs.Trees.{Tree, answers, leaf_at, SameAnswers, Tests}
use Rattle.fdd_nodes.proofs.MakesLaws.{makes_there}
use Rattle.fdd_nodes.proofs.CellLaws.{tells_open, holds_fixed, fill_fixed, fill_open, get-open}
use Rattle.fdd_differ.specs.declared.frame.Frame.{Frame}
use Rattle.fdd_differ.specs.declared.frame.Frame.TheVariants.{NoIp, OtherIp, Tcp, Udp}
use Rattle.fdd_differ.specs.Frames.{frame_cell, Leaves}
use Rattle.fdd_differ.specs.Unnamed.{IsFreshOf}
use Rattle.fdd_differ.proofs.KindLaws.{shaped_by_left, left_by_kind}
use Rattle.fdd_store.specs.Stores.{Kept, Grows}
use Rattle.fdd_store.proofs.SameLaws.{same_trans, same_sym}
use Rattle.fdd_store.proofs.StoreLaws.{has_grown, tree_grown}
use Rattle.fdd_store.proofs.UniqueLaws.{alike_of_one}
use Rattle.fdd_apart.specs.declared.finding.Difference.{Difference}
use Rattle.fdd_apart.specs.Aparts.{AreAlikeShaped, AreAlikeOf, AreAlikeBoth, AreNamesOf, IsLoneOutput, IsApart, IsAsked, IsPacketOf, IsApartOn}
use Rattle.fdd_apart.specs.Outputs.{IsLoneOutcome}
use Rattle.fdd_apart.specs.Kinds.{Restricts}
use Rattle.fdd_apart.specs.Walks.{NamesLit, CellApart}
use Rattle.fdd_apart.proofs.KindLaws.{fixed_left, unnamed_left, kind_of, restriction_names}

-- ---- no cell

pub alike_by : (k : Frame) (a b x y : Tree) → Restricts k a x → Restricts k b y → x ≡ y → AreAlikeOf k a b
alike_by k a b x y rx ry e = record {
  same = λ p s h.
      let left = left_by_kind k p h s in
      same_trans _ _ _ (same_sym _ _ (rx.same p left)) (same_trans _ _ _ (alike_of_one x y e p) (ry.same p left));
}

pub alike_one : (a b : Tree) → a ≡ b → AreAlikeShaped a b
alike_one a b e = record { same = λ p s. alike_of_one a b e p }

pub alike_both : (a b : Tree) → AreAlikeBoth NoIp OtherIp a b → AreAlikeBoth Tcp Udp a b → AreAlikeShaped a b
alike_both a b h i = record { same = λ p s. by p s } where
  of : (k : Frame) → AreAlikeOf k a b
  of NoIp = h.one
  of OtherIp = h.other
  of Tcp = i.one
  of Udp = i.other

  by : (p : Packet) → IsWellShaped p → SameAnswers (answers a p) (answers b p)
  by p s = let k = kind_of p in (of k.0).same p s k.1

-- ---- the packet of a cell

agrees_fill : (q g : Packet) → Agrees q (fill q g)
agrees_fill q g = record { at = λ f n. fill_fixed q g f n }

module _ (k : Frame) (ls : List Lit) (a b x y : Tree) (q g : Packet) (na : AreNamesOf ls a) (nb : AreNamesOf ls b) (rx : Restricts k a x) (ry : Restricts k b y) (h : CellApart whole_cell x y q) (fresh : IsFreshOf ls g) where
  abbrev pub packet : Packet
  packet = fill q (fill (frame_cell k) g)

  -- the packet holds no more of what the restrictions name than the cell: they name nothing that the kind fixes
  named_held : (m : Lit) → NamesLit x m ⊎ NamesLit y m → Holds packet m → Holds q m
  named_held m w v = elim (tells_open q (lit_field m)) [
    | inr n ↦ sym (fill_fixed q (fill (frame_cell k) g) (lit_field m) n.1) ∙ v
    | inl o ↦
        let e = sym (fill_open q (fill (frame_cell k) g) (lit_field m) o.1) ∙ v in
        elim (tells_open (frame_cell k) (lit_field m)) [
          | inr n ↦ absurd (unfixed m w (sym (fill_fixed (frame_cell k) g (lit_field m) n.1) ∙ e))
          | inl z ↦ absurd (fresh.missing m (among m w) (sym (fill_open (frame_cell k) g (lit_field m) z.1) ∙ e))
        ]
  ] where
    unfixed_by : (c z : Tree) → Restricts k c z → (j : Lit) → NamesLit z j → ¬ Holds (frame_cell k) j
    unfixed_by c z r j u f = elim u [ inl i ↦ holds_fixed (frame_cell k) j f (r.untold j i) | inr i ↦ r.clean j i f ]

    unfixed : (j : Lit) → NamesLit x j ⊎ NamesLit y j → ¬ Holds (frame_cell k) j
    unfixed j u f = elim u [ inl i ↦ unfixed_by a x rx j i f | inr i ↦ unfixed_by b y ry j i f ]

    among : (j : Lit) → NamesLit x j ⊎ NamesLit y j → IsIn ls j
    among j u = elim u [ inl i ↦ restriction_names k ls a x na rx j i | inr i ↦ restriction_names k ls b y nb ry j i ]

  -- each field has a value that the kind leaves
  abbrev Good : Field → Type 0
  Good f = Leaves k f (get packet f) × IsValue f (get packet f)

  good_as : (f : Field) (n : ℕ) → get packet f ≡ n → Leaves k f n × IsValue f n → Good f
  good_as f n e v = subst (λ (j : ℕ). Leaves k f j × IsValue f j) (sym e) v

  good_tested : (m : Lit) → Tests x m ⊎ Tests y m → Holds q m → Good (lit_field m)
  good_tested m w v =
      let left : Leaves k (lit_field m) (lit_value m) = elim w [ inl i ↦ rx.left m i | inr i ↦ ry.left m i ] in
      good_as (lit_field m) (lit_value m) (fill_fixed q (fill (frame_cell k) g) (lit_field m) (holds_fixed q m v) ∙ v) (left, lit_is_value m)

  good : (f : Field) → Good f
  good f = elim (tells_open q f) [
    | inr n ↦ elim (h.fixed f n.1) [
      | inl z ↦ absurd (z (get-open f))
      | inr z ↦ subst Good z.field (good_tested z.lit z.tested z.holds)
    ]
    | inl o ↦ elim (tells_open (frame_cell k) f) [
      | inr n ↦ good_as f (get (frame_cell k) f) (fill_open q (fill (frame_cell k) g) f o.1 ∙ fill_fixed (frame_cell k) g f n.1) (fixed_left k f n.1)
      | inl z ↦ good_as f (get g f) (fill_open q (fill (frame_cell k) g) f o.1 ∙ fill_open (frame_cell k) g f z.1) (unnamed_left k f ls g fresh z.1, fresh.shaped.in_range f)
    ]
  ]

  pub packet_shaped : IsWellShaped packet
  packet_shaped = shaped_by_left k packet (λ f. (good f).1) (λ f. (good f).0)

  pub packet_differs : ¬ SameAnswers (answers a packet) (answers b packet)
  packet_differs s =
      let left = λ (f : Field). (good f).0 in
      h.differs packet (agrees_fill q (fill (frame_cell k) g)) named_held (same_trans _ _ _ (rx.same packet left) (same_trans _ _ _ s (same_sym _ _ (ry.same packet left))))

pub told_apart : (k : Frame) (ls : List Lit) (a b x y : Tree) (q p : Packet) (o : Option Difference) → AreNamesOf ls a → AreNamesOf ls b → Restricts k a x → Restricts k b y → CellApart whole_cell x y q → IsPacketOf q k ls p
    → MatchOption o (SameAnswers (answers a p) (answers b p)) (IsApartOn a b p) → MatchOption o (AreAlikeOf k a b) (IsApart a b)
told_apart k ls a b x y q p None na nb rx ry h i t =
    absurd (packet_differs k ls a b x y q i.other na nb rx ry h i.fresh (subst (λ (r : Packet). SameAnswers (answers a r) (answers b r)) i.is t))
told_apart k ls a b x y q p (Some z) na nb rx ry h i t = record {
  shaped = subst IsWellShaped (sym (t.packet ∙ i.is)) (packet_shaped k ls a b x y q i.other na nb rx ry h i.fresh);
  alone = t.alone;
}

-- ---- a store that has grown

pub named_as : (ls : List Lit) (a b : Tree) → a ≡ b → AreNamesOf ls b → AreNamesOf ls a
named_as ls a b e h = subst (AreNamesOf ls) (sym e) h

pub asked_grown : (k j : Kept) (a b : ℕ) (ls : List Lit) → Grows k j → IsAsked k a b ls → IsAsked j a b ls
asked_grown k j a b ls g h = record {
  has_a = has_grown k j a g h.has_a;
  has_b = has_grown k j b g h.has_b;
  few = h.few;
  named_a = named_as ls _ _ (tree_grown k j a g h.has_a) h.named_a;
  named_b = named_as ls _ _ (tree_grown k j b g h.has_b) h.named_b;
}

pub told_as : (a b x y : Tree) (p : Packet) (o : Option Difference) → a ≡ x → b ≡ y → MatchOption o (SameAnswers (answers a p) (answers b p)) (IsApartOn a b p) → MatchOption o (SameAnswers (answers x p) (answers y p)) (IsApartOn x y p)
told_as a b x y p o e f h =
    subst (λ (t : Tree). MatchOption o (SameAnswers (answers x p) (answers t p)) (IsApartOn x t p)) f
    (subst (λ (t : Tree). MatchOption o (SameAnswers (answers t p) (answers b p)) (IsApartOn t b p)) e h)

-- ---- several kinds

pub both_kinds : (k j : Frame) (a b x y : Tree) (o : Option Difference) → x ≡ a → y ≡ b → AreAlikeOf k a b → MatchOption o (AreAlikeOf j x y) (IsApart x y) → MatchOption o (AreAlikeBoth k j a b) (IsApart a b)
both_kinds k j a b x y None e f h i = record { one = h; other = subst (λ (t : Tree). AreAlikeOf j a t) f (subst (λ (t : Tree). AreAlikeOf j t y) e i) }
both_kinds k j a b x y (Some z) e f h i = subst (λ (t : Tree). IsApart a t z) f (subst (λ (t : Tree). IsApart t y z) e i)

pub all_kinds : (a b x y : Tree) (o : Option Difference) → x ≡ a → y ≡ b → AreAlikeBoth NoIp OtherIp a b → MatchOption o (AreAlikeBoth Tcp Udp x y) (IsApart x y) → MatchOption o (AreAlikeShaped a b) (IsApart a b)
all_kinds a b x y None e f h i = alike_both a b h (subst (λ (t : Tree). AreAlikeBoth Tcp Udp a t) f (subst (λ (t : Tree). AreAlikeBoth Tcp Udp t y) e i))
all_kinds a b x y (Some z) e f h i = subst (λ (t : Tree). IsApart a t z) f (subst (λ (t : Tree). IsApart t y z) e i)

-- ---- outputs of one packet

alone_there : (a b : Tree) (p : Packet) (o : Option Packet) → MatchOption o (MakesAll (leaf_at a p) (leaf_at b p) p) (IsLoneOutcome (leaf_at a p) (leaf_at b p) p) → MatchOption o (Within (answers a p) (answers b p)) (IsLoneOutput a b p)
alone_there a b p None h = λ x. makes_there (leaf_at a p) (leaf_at b p) p x h
alone_there a b p (Some z) h = record { given = h.made; missing = h.missing }

pub alone_by : (a b : Tree) (p : Packet) (xs ys : List (List Lit)) (o : Option Packet) → xs ≡ leaf_at a p → ys ≡ leaf_at b p → MatchOption o (MakesAll xs ys p) (IsLoneOutcome xs ys p) → MatchOption o (Within (answers a p) (answers b p)) (IsLoneOutput a b p)
alone_by a b p xs ys o e f h =
    alone_there a b p o (subst (λ (us : List (List Lit)). MatchOption o (MakesAll (leaf_at a p) us p) (IsLoneOutcome (leaf_at a p) us p)) f
    (subst (λ (us : List (List Lit)). MatchOption o (MakesAll us ys p) (IsLoneOutcome us ys p)) e h))
