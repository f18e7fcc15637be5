-- Cells, and where diagrams part in them.
use Rattle.std.proofs.Common.{◌≡◌, ◌≢◌, ◌+◌, ◌⊎◌, inl, inr, refl, ap, sym, ◌∙◌, subst, arith, true, false, cond, List}
use Rattle.std.proofs.lemmas.Bool.{eq-eqb, ne_eqb}
use Rattle.std.proofs.lemmas.Bool.Decides.{eqb_tells}
use Rattle.nk_values.specs.declared.field.Field.{Field}
use Rattle.nk_values.specs.declared.field.Field.TheVariants.{Sw, Pt, EthTyp, IpProto, EthSrc, EthDst, Ip4Src, Ip4Dst, TcpSrcPort, TcpDstPort}
use Rattle.nk_values.specs.declared.packet.Packet.{Packet}
use Rattle.nk_values.specs.declared.lit.Lit.{Lit}
use Rattle.nk_values.specs.Held.{Holds, put}
use Rattle.nk_values.specs.Lits.{lit_field, lit_value}
use Rattle.nk_values.specs.Members.{IsIn}
use Rattle.nk_values.specs.Packets.{get, IsInRange}
use Rattle.nk_values.specs.Ranges.{place, IsValue}
use Rattle.nk_values.specs.Ranks.{rank}
use Rattle.nk_values.proofs.LitLaws.{lit_small, lit_is_value}
use Rattle.nk_values.proofs.PacketLaws.{get-with_same, get-with_other, field_cases}
use Rattle.fdd_nodes.specs.Trees.{Tree, Leaf, Node, leaf_at, outcomes, answers, SameAnswers, IsOrderedFrom}
use Rattle.fdd_nodes.specs.Roots.{IsLeaf, IsFirst}
use Rattle.fdd_nodes.specs.Cells.{unset, whole_cell, cell_of, Agrees, Alike, IsFresh, pick, fill, IsValid, Parts, IsUnset, CanFix, is_unset}
use Rattle.fdd_nodes.specs.Known.{Bars}
use Rattle.fdd_nodes.specs.Normals.{IsRedundant}
use Rattle.fdd_nodes.proofs.MakesLaws.{same_outcomes_at, among_lists}
use Rattle.fdd_nodes.proofs.SplitLaws.{Splits, first_from, first_tested}

pub lit_not_free : (l : Lit) → CanFix (lit_value l)
lit_not_free l h = let k : lit_value l ≡ unset = h in omega (arith, lit_small l, k)

-- a cell fixes a field or leaves it open
pub tells_open : (c : Packet) (f : Field) → ((is_unset c f ≡ true) × IsUnset c f) ⊎ ((is_unset c f ≡ false) × (¬ IsUnset c f))
tells_open c f = eqb_tells (get c f) unset

-- what a cell holds it fixes
pub holds_fixed : (c : Packet) (l : Lit) → Holds c l → ¬ IsUnset c (lit_field l)
holds_fixed c l h k = lit_not_free l (sym h ∙ k)

-- what a cell is at a field once a literal is fixed
pub agrees_with : (c p : Packet) (l : Lit) → Holds p l → Agrees c p → Agrees (put l c) p
agrees_with c p l h a = record {
  at = λ f n. elim (field_cases (lit_field l) f) [
    | inl e ↦ subst (λ (g : Field). get p g ≡ get (put l c) g) e (h ∙ sym (get-with_same c (lit_field l) (lit_value l)))
    | inr o ↦ let e = get-with_other c (lit_field l) f (lit_value l) o in a.at f (λ k. n (e ∙ k)) ∙ sym e
  ];
}

-- a cell filled up by a packet, field by field
pub get-fill : (q g : Packet) (f : Field) → get (fill q g) f ≡ pick (get q f) (get g f)
get-fill q g Sw = refl
get-fill q g Pt = refl
get-fill q g EthTyp = refl
get-fill q g IpProto = refl
get-fill q g EthSrc = refl
get-fill q g EthDst = refl
get-fill q g Ip4Src = refl
get-fill q g Ip4Dst = refl
get-fill q g TcpSrcPort = refl
get-fill q g TcpDstPort = refl

pub fill_fixed : (q g : Packet) (f : Field) → ¬ IsUnset q f → get (fill q g) f ≡ get q f
fill_fixed q g f h = get-fill q g f ∙ ap (λ b. cond b (get g f) (get q f)) (ne_eqb _ _ h)

pub fill_open : (q g : Packet) (f : Field) → IsUnset q f → get (fill q g) f ≡ get g f
fill_open q g f h = get-fill q g f ∙ ap (λ b. cond b (get g f) (get q f)) (eq-eqb _ _ h)

pub same_via : (a a' b b' : Tree) (p : Packet) → leaf_at a p ≡ leaf_at a' p → leaf_at b p ≡ leaf_at b' p → SameAnswers (answers a' p) (answers b' p) → SameAnswers (answers a p) (answers b p)
same_via a a' b b' p ea eb h =
    subst (λ (x : List (List Lit)). SameAnswers (outcomes x p) (answers b p)) (sym ea)
    (subst (λ (x : List (List Lit)). SameAnswers (answers a' p) (outcomes x p)) (sym eb) h)

-- a first test splits likeness
pub alike_split : (c : Packet) (l : Lit) (a a1 a0 b b1 b0 : Tree) → Splits l a a1 a0 → Splits l b b1 b0 → Alike (put l c) a1 b1 → Alike c a0 b0 → Alike c a b
alike_split c l a a1 a0 b b1 b0 sa sb h1 h0 = record {
  same = λ p g. elim (eqb_tells (get p (lit_field l)) (lit_value l)) [
    | inl y ↦ same_via a a1 b b1 p (sa.then_leaf p y.1) (sb.then_leaf p y.1) (h1.same p (agrees_with c p l y.1 g))
    | inr n ↦ same_via a a0 b b0 p (sa.else_leaf p n.1) (sb.else_leaf p n.1) (h0.same p g)
  ];
}

-- where the cell fixes the field
pub alike_then : (c : Packet) (l : Lit) (a a1 a0 b b1 b0 : Tree) → Splits l a a1 a0 → Splits l b b1 b0 → Holds c l → Alike c a1 b1 → Alike c a b
alike_then c l a a1 a0 b b1 b0 sa sb e h = record {
  same = λ p g.
      let y = g.at (lit_field l) (holds_fixed c l e) ∙ e in same_via a a1 b b1 p (sa.then_leaf p y) (sb.then_leaf p y) (h.same p g);
}

pub alike_else : (c : Packet) (l : Lit) (a a1 a0 b b1 b0 : Tree) → Splits l a a1 a0 → Splits l b b1 b0 → Bars c l → Alike c a0 b0 → Alike c a b
alike_else c l a a1 a0 b b1 b0 sa sb n h = record {
  same = λ p g.
      let y : ¬ Holds p l = λ k. n.other (sym (g.at (lit_field l) n.fixed) ∙ k) in same_via a a0 b b0 p (sa.else_leaf p y) (sb.else_leaf p y) (h.same p g);
}

fresh_then : (g : Packet) (l : Lit) (a a1 a0 : Tree) → Splits l a a1 a0 → IsFresh g a → IsFresh g a1
fresh_then g l a a1 a0 s h = record { tested = λ m k. h.tested m (s.then_tests m k); assigned = λ m k. h.assigned m (s.then_assigns m k) }

fresh_else : (g : Packet) (l : Lit) (a a1 a0 : Tree) → Splits l a a1 a0 → IsFresh g a → IsFresh g a0
fresh_else g l a a1 a0 s h = record { tested = λ m k. h.tested m (s.else_tests m k); assigned = λ m k. h.assigned m (s.else_assigns m k) }

-- what a cell with one literal more keeps
keeps_with : (c q : Packet) (l : Lit) → IsUnset c (lit_field l) → ((f : Field) → ¬ IsUnset (put l c) f → get q f ≡ get (put l c) f) → (f : Field) → ¬ IsUnset c f → get q f ≡ get c f
keeps_with c q l o h f n = elim (field_cases (lit_field l) f) [
  | inl e ↦ absurd (n (subst (λ (g : Field). IsUnset c g) e o))
  | inr d ↦ let e = get-with_other c (lit_field l) f (lit_value l) d in h f (λ k. n (sym e ∙ k)) ∙ e
]

pub valid_with : (c : Packet) (l : Lit) → IsValid c → IsValid (put l c)
valid_with c l v = record {
  at = λ f n. elim (field_cases (lit_field l) f) [
    | inl e ↦ subst (λ (g : Field). IsValue g (get (put l c) g)) e (subst (IsValue (lit_field l)) (sym (get-with_same c (lit_field l) (lit_value l))) (lit_is_value l))
    | inr d ↦ let e = get-with_other c (lit_field l) f (lit_value l) d in subst (IsValue f) (sym e) (v.at f (λ k. n (e ∙ k)))
  ];
}

pub parts_then : (c : Packet) (l : Lit) (a a1 a0 b b1 b0 : Tree) (q : Packet) → Splits l a a1 a0 → Splits l b b1 b0 → IsFirst l a b → IsUnset c (lit_field l) → Parts (put l c) a1 b1 q → Parts c a b q
parts_then c l a a1 a0 b b1 b0 q sa sb first o h =
    let same = get-with_same c (lit_field l) (lit_value l) in
    let at_l : Holds q l = h.keeps (lit_field l) (λ k. lit_not_free l (sym same ∙ k)) ∙ same in
    record {
      keeps = keeps_with c q l o h.keeps;
      valid = λ v. h.valid (valid_with c l v);
      beyond = λ k oa ob m om e.
          let least = first_from l a b k first oa ob in
          elim (field_cases (lit_field l) (lit_field m)) [
            | inl ef ↦
                let ep : place (lit_field l) ≡ place (lit_field m) = ap place ef in
                let ev : lit_value m ≡ lit_value l = sym e ∙ ap (λ f. get q f) (sym ef) ∙ at_l in
                omega (arith, least, ep, ev)
            | inr d ↦
                let below = h.beyond (rank l + 1) (sa.then_ordered k oa) (sb.then_ordered k ob) m (get-with_other c (lit_field l) (lit_field m) (lit_value l) d ∙ om) e in
                omega (arith, least, below)
          ];
      differs = λ k oa ob g fa fb s.
          let y : Holds (fill q g) l = fill_fixed q g (lit_field l) (λ z. lit_not_free l (sym at_l ∙ z)) ∙ at_l in
          h.differs (rank l + 1) (sa.then_ordered k oa) (sb.then_ordered k ob) g (fresh_then g l a a1 a0 sa fa) (fresh_then g l b b1 b0 sb fb)
          (same_via a1 a b1 b _ (sym (sa.then_leaf _ y)) (sym (sb.then_leaf _ y)) s);
    }

fresh_first : (g : Packet) (l : Lit) (a b : Tree) → IsFirst l a b → IsFresh g a → IsFresh g b → ¬ Holds g l
fresh_first g l a b first fa fb = elim (first_tested l a b first) [ inl h ↦ fa.tested l h | inr h ↦ fb.tested l h ]

pub parts_else : (c : Packet) (l : Lit) (a a1 a0 b b1 b0 : Tree) (q : Packet) → Splits l a a1 a0 → Splits l b b1 b0 → IsFirst l a b → IsUnset c (lit_field l) → Parts c a0 b0 q → Parts c a b q
parts_else c l a a1 a0 b b1 b0 q sa sb first o h =
    record {
      keeps = h.keeps;
      valid = h.valid;
      beyond = λ k oa ob m om e.
          let least = first_from l a b k first oa ob in
          let below = h.beyond (rank l + 1) (sa.else_ordered k oa) (sb.else_ordered k ob) m om e in
          omega (arith, least, below);
      differs = λ k oa ob g fa fb s.
          let n : ¬ Holds (fill q g) l = λ z. elim (tells_open q (lit_field l)) [
            | inl y ↦ fresh_first g l a b first fa fb (sym (fill_open q g (lit_field l) y.1) ∙ z)
            | inr y ↦
                let below = h.beyond (rank l + 1) (sa.else_ordered k oa) (sb.else_ordered k ob) l o (sym (fill_fixed q g (lit_field l) y.1) ∙ z) in
                omega (arith, below)
          ] in
          h.differs (rank l + 1) (sa.else_ordered k oa) (sb.else_ordered k ob) g (fresh_else g l a a1 a0 sa fa) (fresh_else g l b b1 b0 sb fb)
          (same_via a0 a b0 b _ (sym (sa.else_leaf _ n)) (sym (sb.else_leaf _ n)) s);
    }

-- where the cell fixes the field
pub parts_fixed_then : (c : Packet) (l : Lit) (a a1 a0 b b1 b0 : Tree) (q : Packet) → Splits l a a1 a0 → Splits l b b1 b0 → IsFirst l a b → Holds c l → Parts c a1 b1 q → Parts c a b q
parts_fixed_then c l a a1 a0 b b1 b0 q sa sb first e h =
    let n = holds_fixed c l e in
    record {
      keeps = h.keeps;
      valid = h.valid;
      beyond = λ k oa ob m om em.
          let least = first_from l a b k first oa ob in
          let below = h.beyond (rank l + 1) (sa.then_ordered k oa) (sb.then_ordered k ob) m om em in
          omega (arith, least, below);
      differs = λ k oa ob g fa fb s.
          let kept = h.keeps (lit_field l) n in
          let y : Holds (fill q g) l = fill_fixed q g (lit_field l) (λ z. n (sym kept ∙ z)) ∙ kept ∙ e in
          h.differs (rank l + 1) (sa.then_ordered k oa) (sb.then_ordered k ob) g (fresh_then g l a a1 a0 sa fa) (fresh_then g l b b1 b0 sb fb)
          (same_via a1 a b1 b _ (sym (sa.then_leaf _ y)) (sym (sb.then_leaf _ y)) s);
    }

pub parts_fixed_else : (c : Packet) (l : Lit) (a a1 a0 b b1 b0 : Tree) (q : Packet) → Splits l a a1 a0 → Splits l b b1 b0 → IsFirst l a b → Bars c l → Parts c a0 b0 q → Parts c a b q
parts_fixed_else c l a a1 a0 b b1 b0 q sa sb first bars h =
    let n = bars.fixed in
    let e = bars.other in
    record {
      keeps = h.keeps;
      valid = h.valid;
      beyond = λ k oa ob m om em.
          let least = first_from l a b k first oa ob in
          let below = h.beyond (rank l + 1) (sa.else_ordered k oa) (sb.else_ordered k ob) m om em in
          omega (arith, least, below);
      differs = λ k oa ob g fa fb s.
          let kept = h.keeps (lit_field l) n in
          let y : ¬ Holds (fill q g) l = λ z. e (sym kept ∙ sym (fill_fixed q g (lit_field l) (λ z'. n (sym kept ∙ z'))) ∙ z) in
          h.differs (rank l + 1) (sa.else_ordered k oa) (sb.else_ordered k ob) g (fresh_else g l a a1 a0 sa fa) (fresh_else g l b b1 b0 sb fb)
          (same_via a0 a b0 b _ (sym (sa.else_leaf _ y)) (sym (sb.else_leaf _ y)) s);
    }

-- two leaves
pub leaf_alike : (c : Packet) (a b : Tree) → IsLeaf a → IsLeaf b → SameAnswers (outcomes (leaf_at a c) c) (outcomes (leaf_at b c) c) → Alike c a b
leaf_alike c (Leaf cs) (Leaf ds) ha hb s = record {
  same = λ p g. same_outcomes_at cs ds c p
      (λ x d mx md f. elim (tells_open c f) [
        | inl y ↦ inr (λ m k e z. lit_not_free m (z ∙ y.1), λ m k e z. lit_not_free m (z ∙ y.1))
        | inr n ↦ inl (sym (g.at f n.1))
      ]) s;
}
leaf_alike c (Node l t e) b ha hb s = absurd ha
leaf_alike c (Leaf cs) (Node l t e) ha hb s = absurd hb

misses_fill : (c g : Packet) (cs : List (List Lit)) (x : List Lit) (f : Field) → IsFresh g (Leaf cs) → IsIn cs x → IsUnset c f → (m : Lit) → IsIn x m → lit_field m ≡ f → lit_value m ≢ get (fill c g) f
misses_fill c g cs x f h k y m km e z =
    h.assigned m (among_lists cs x m k km) (ap (λ f'. get g f') e ∙ sym (fill_open c g f y) ∙ sym z)

pub leaf_parts : (c : Packet) (a b : Tree) → IsLeaf a → IsLeaf b → (SameAnswers (outcomes (leaf_at a c) c) (outcomes (leaf_at b c) c) → ⊥) → Parts c a b c
leaf_parts c (Leaf cs) (Leaf ds) ha hb s = record {
  keeps = λ f n. refl;
  valid = λ v. v;
  beyond = λ k oa ob m om e. absurd (lit_not_free m (sym e ∙ om));
  differs = λ k oa ob g fa fb h. s (same_outcomes_at cs ds (fill c g) c
      (λ x d mx md f. elim (tells_open c f) [
        | inl y ↦ inr (misses_fill c g cs x f fa mx y.1, misses_fill c g ds d f fb md y.1)
        | inr n ↦ inl (fill_fixed c g f n.1)
      ]) h);
}
leaf_parts c (Node l t e) b ha hb s = absurd ha
leaf_parts c (Leaf cs) (Node l t e) ha hb s = absurd hb

pub get-open : (f : Field) → IsUnset whole_cell f
get-open Sw = refl
get-open Pt = refl
get-open EthTyp = refl
get-open IpProto = refl
get-open EthSrc = refl
get-open EthDst = refl
get-open Ip4Src = refl
get-open Ip4Dst = refl
get-open TcpSrcPort = refl
get-open TcpDstPort = refl

pub open_agrees : (p : Packet) → Agrees whole_cell p
open_agrees p = record { at = λ f n. absurd (n (get-open f)) }

pub open_valid : IsValid whole_cell
open_valid = record { at = λ f n. absurd (n (get-open f)) }

pub cell_agrees : (l : Lit) (p : Packet) → Holds p l → Agrees (cell_of l) p
cell_agrees l p h = agrees_with whole_cell p l h (open_agrees p)

pub fill_in_range : (q g : Packet) → IsValid q → IsInRange g → IsInRange (fill q g)
fill_in_range q g v r = λ f. elim (tells_open q f) [
  | inl y ↦ subst (IsValue f) (sym (fill_open q g f y.1)) (r f)
  | inr n ↦ subst (IsValue f) (sym (fill_fixed q g f n.1)) (v.at f n.1)
]

-- where the branches part, the test is not redundant
pub not_redundant : (l : Lit) (t e : Tree) (q g : Packet) → Parts (cell_of l) t e q → IsOrderedFrom (rank l + 1) t → IsOrderedFrom (rank l + 1) e → IsInRange g → IsFresh g t → IsFresh g e → IsRedundant l t e → ⊥
not_redundant l t e q g h ot oe r ft fe red =
    let same = get-with_same whole_cell (lit_field l) (lit_value l) in
    let at_l : Holds q l = h.keeps (lit_field l) (λ k. lit_not_free l (sym same ∙ k)) ∙ same in
    let y : Holds (fill q g) l = fill_fixed q g (lit_field l) (λ z. lit_not_free l (sym at_l ∙ z)) ∙ at_l in
    h.differs (rank l + 1) ot oe g ft fe (red.same _ (fill_in_range q g (h.valid (valid_with whole_cell l open_valid)) r) y)
