-- The star of a diagram, cell by cell.
use Rattle.std.proofs.Common.{◌≡◌, ◌⊎◌, inl, inr, refl, ap, sym, ◌∙◌, subst, arith, List, [], ◌∷◌, ◌++◌}
use Rattle.std.proofs.lemmas.Bool.Decides.{eqb_tells}
use Rattle.nk_values.specs.declared.field.Field.{Field}
use Rattle.nk_values.specs.declared.packet.Packet.{Packet}
use Rattle.nk_values.specs.declared.lit.Lit.{Lit}
use Rattle.nk_values.specs.Held.{Holds, put}
use Rattle.nk_values.specs.Lits.{lit_field, lit_value}
use Rattle.nk_values.specs.Members.{IsIn, SameMembers}
use Rattle.nk_values.specs.Packets.{get}
use Rattle.nk_values.proofs.MemberLaws.{in-either, in-left, in-right}
use Rattle.nk_values.proofs.PacketLaws.{get-with_same, get-with_other, field_cases}
use Rattle.fdd_nodes.specs.Trees.{Tree, Leaf, Node, apply, outcomes, SameAnswers, IsSetBy, Tests, Assigns}
use Rattle.fdd_nodes.specs.Cells.{whole_cell, fill, Agrees, IsUnset}
use Rattle.fdd_nodes.specs.Names.{literals, AreFew, IsFew}
use Rattle.fdd_nodes.proofs.CellLaws.{lit_not_free, agrees_with, open_agrees, get-open}
use Rattle.fdd_nodes.proofs.MakesLaws.{source, outcome}
use Rattle.fdd_nodes.proofs.NameLaws.{count_within, named, tests_literal, assigns_literal}
use Rattle.fdd_store.specs.Operations.{ChoiceOf}
use Rattle.fdd_star.specs.declared.reach.Reach.{Reach}
use Rattle.fdd_star.specs.Asks.{Asks}
use Rattle.fdd_star.specs.Reaches.{reached_copies, asked_of, HoldsAll, IsClosed, IsNamedBy, NamesOf, Misses, StarBut}
use Rattle.fdd_star.specs.Stars.{Iterates, StarOf, IsShallow}
use Rattle.fdd_star.proofs.FirstLaws.{apply_apart, held_apart}
use Rattle.fdd_star.proofs.FillLaws.{EscapesAll, fill_agrees, apply_fill, turns_filled, filled_turns}

-- what names no more than p does names few values

inside : (p t : Tree) → IsNamedBy p t → (m : Lit) → IsIn (literals t) m → IsIn (literals p) m
inside p t h m k = elim (named t m k) [ inl x ↦ tests_literal p m (h.tests m x) | inr x ↦ assigns_literal p m (h.assigns m x) ]

pub few_within : (p a : Tree) → IsFew p → IsNamedBy p a → IsFew a
few_within p a few h = let k = count_within (literals a) (literals p) (inside p a h) in omega (arith, k, few)

-- and so few with the first copy

pub few_alone : (s : List Lit) (p : Tree) → AreFew (Leaf (s ∷ [])) p → IsFew p
few_alone s p few =
    let k = count_within (literals p) (literals (Leaf (s ∷ [])) ++ literals p) (λ m i. in-right (literals (Leaf (s ∷ []))) (literals p) m i) in
    omega (arith, k, few.bound)

pub few_inside : (s : List Lit) (p a : Tree) → AreFew (Leaf (s ∷ [])) p → IsNamedBy p a → AreFew (Leaf (s ∷ [])) a
few_inside s p a few h = record {
  bound =
      let k = count_within (literals (Leaf (s ∷ [])) ++ literals a) (literals (Leaf (s ∷ [])) ++ literals p) (λ m i. elim (in-either (literals (Leaf (s ∷ []))) (literals a) m i) [
        | inl w ↦ in-left (literals (Leaf (s ∷ []))) (literals p) m w
        | inr w ↦ in-right (literals (Leaf (s ∷ []))) (literals p) m (inside p a h m w)
      ]) in
      omega (arith, k, few.bound);
}

pub few_none : (s : List Lit) (p : Tree) → s ≡ [] → IsFew p → AreFew (Leaf (s ∷ [])) p
few_none s p e few = subst (λ (xs : List Lit). AreFew (Leaf (xs ∷ [])) p) (sym e) (record { bound = few })

-- the names of copies

set_by : (cs : List (List Lit)) (m : Lit) → IsSetBy cs m → (x : List Lit) × IsIn cs x × IsIn x m
set_by [] m h = absurd h
set_by (c ∷ cs) m h = elim h [ inl k ↦ (c, inl refl, k) | inr k ↦ let w = set_by cs m k in (w.0, inr w.1, w.2) ]

named_leaf : (f : List Lit) (p : Tree) (c : Packet) (r : Reach) (cs : List (List Lit)) → IsClosed f p c r → SameMembers cs (reached_copies r) → NamesOf f p (Leaf cs)
named_leaf f p c r cs h s = record { tests = λ m k. absurd k; assigns = λ m k. let w = set_by cs m k in h.named w.0 m (s.front w.0 w.1) w.2 }

-- on the packets of the cell that hold nothing which was asked, the copies answer as the star
pub star_leaf : (f : List Lit) (p : Tree) (c : Packet) (r : Reach) (cs : List (List Lit)) → IsClosed f p c r → SameMembers cs (reached_copies r) → StarBut f p c (asked_of r) (Leaf cs)
star_leaf f p c r cs h s = record {
  made = λ pk out g miss k.
      let o = source cs pk out k in
      let w = h.made o.copy (s.front o.copy o.among) in
      let turns = turns_filled p w.0 c (apply o.copy c) pk (escapes pk miss) w.2 in
      let same = sym (apply_fill o.copy c pk) ∙ ap (apply o.copy) (fill_agrees c pk g) ∙ o.makes in
      (w.0, w.1, subst (λ (z : Packet). Iterates p w.0 z out) (fill_agrees c pk g) (subst (Iterates p w.0 (fill c pk)) same turns));
  all = λ n pk out g miss k.
      let w = filled_turns p n c out pk (escapes pk miss) (subst (λ (z : Packet). Iterates p n z out) (sym (fill_agrees c pk g)) k) in
      let o = source (reached_copies r) c w.0 (h.all n w.0 w.1) in
      let same = ap (apply o.copy) (sym (fill_agrees c pk g)) ∙ apply_fill o.copy c pk ∙ ap (λ z. fill z pk) o.makes ∙ w.2 in
      subst (IsIn (outcomes cs pk)) same (outcome cs o.copy pk (s.back o.copy o.among));
  normal = record { ordered = tt; respects = λ m k z. lit_not_free m (sym z ∙ get-open (lit_field m)); tight = tt };
  names = named_leaf f p c r cs h s;
  is_unset = λ m k. absurd k;
  first = λ pk. record {
    front = λ z k.
        let o = source cs pk z k in
        subst (IsIn (outcomes cs (apply f pk))) (h.follows o.copy (s.front o.copy o.among) pk ∙ o.makes) (outcome cs o.copy (apply f pk) o.among);
    back = λ z k.
        let o = source cs (apply f pk) z k in
        subst (IsIn (outcomes cs pk)) (sym (h.follows o.copy (s.front o.copy o.among) pk) ∙ o.makes) (outcome cs o.copy pk o.among);
  };
}
  where
    escapes : (pk : Packet) → Misses c (asked_of r) pk → EscapesAll p c pk
    escapes pk miss n q w m k =
        let o = source (reached_copies r) c q (h.all n q w) in
        let i = h.asks o.copy m o.among (subst (λ (z : Packet). Asks p z m) (sym o.makes) k) in
        miss m i (h.is_unset m i)

-- an open field of a cell with a literal

pub open_within : (c : Packet) (l : Lit) (x : Field) → IsUnset (put l c) x → (¬ (lit_field l ≡ x)) × IsUnset c x
open_within c l x o = elim (field_cases (lit_field l) x) [
  | inl e ↦ absurd (lit_not_free l (sym (get-with_same c (lit_field l) (lit_value l)) ∙ subst (IsUnset (put l c)) (sym e) o))
  | inr d ↦ (d, sym (get-with_other c (lit_field l) x (lit_value l) d) ∙ o)
]

-- with fewer literals of open fields that may be held
pub star_as : (s : List Lit) (p : Tree) (c : Packet) (ls ms : List Lit) (r : Tree) → ((m : Lit) → IsIn ls m → IsUnset c (lit_field m) → IsIn ms m) → StarBut s p c ls r → StarBut s p c ms r
star_as s p c ls ms r f h = record {
  made = λ pk out g miss k. h.made pk out g (λ m i o. miss m (f m i o) o) k;
  all = λ n pk out g miss k. h.all n pk out g (λ m i o. miss m (f m i o) o) k;
  normal = h.normal;
  names = h.names;
  is_unset = h.is_unset;
  first = h.first;
}

-- one literal more may be held
around : (ws xs ys zs : List Packet) → SameAnswers ws xs → SameAnswers xs ys → SameAnswers zs ys → SameAnswers ws zs
around ws xs ys zs g h k = record { front = λ x i. k.back x (h.front x (g.front x i)); back = λ x i. g.back x (h.back x (k.front x i)) }

pub star_more : (s : List Lit) (p : Tree) (c : Packet) (ls ms : List Lit) (l : Lit) (a b r : Tree) → HoldsAll c s → Tests p l → IsUnset c (lit_field l) → ls ≡ ms ++ l ∷ [] → StarBut s p (put l c) ms a → StarBut s p c ls b → ChoiceOf l a b r → StarBut s p c ms r
star_more s p c ls ms l a b r held tested o e ha hb choice = record {
  made = λ pk out g miss k. elim (eqb_tells (get pk (lit_field l)) (lit_value l)) [
    | inl y ↦ ha.made pk out (agrees_with c pk l y.1 g) (within pk miss) ((choice.yes pk y.1).front out k)
    | inr y ↦ hb.made pk out g (misses pk miss y.1) ((choice.no pk y.1).front out k)
  ];
  all = λ n pk out g miss k. elim (eqb_tells (get pk (lit_field l)) (lit_value l)) [
    | inl y ↦ (choice.yes pk y.1).back out (ha.all n pk out (agrees_with c pk l y.1 g) (within pk miss) k)
    | inr y ↦ (choice.no pk y.1).back out (hb.all n pk out g (misses pk miss y.1) k)
  ];
  normal = choice.normal;
  names = record {
    tests = λ m k. elim (choice.tests m k) [
      | inl v ↦ subst (Tests p) v tested
      | inr v ↦ elim v [ inl u ↦ ha.names.tests m u | inr u ↦ hb.names.tests m u ]
    ];
    assigns = λ m k. elim (choice.assigns m k) [ inl u ↦ ha.names.assigns m u | inr u ↦ hb.names.assigns m u ];
  };
  is_unset = λ m k. elim (choice.tests m k) [
    | inl v ↦ subst (λ (x : Lit). IsUnset c (lit_field x)) v o
    | inr v ↦ elim v [ inl u ↦ (open_within c l (lit_field m) (ha.is_unset m u)).1 | inr u ↦ hb.is_unset m u ]
  ];
  first = λ pk. elim (eqb_tells (get pk (lit_field l)) (lit_value l)) [
    | inl y ↦ around _ _ _ _ (choice.yes pk y.1) (ha.first pk) (choice.yes (apply s pk) (stands pk ∙ y.1))
    | inr y ↦ around _ _ _ _ (choice.no pk y.1) (hb.first pk) (choice.no (apply s pk) (λ k. y.1 (sym (stands pk) ∙ k)))
  ];
}
  where
    stands : (pk : Packet) → get (apply s pk) (lit_field l) ≡ get pk (lit_field l)
    stands pk = apply_apart s pk (lit_field l) (held_apart s c (lit_field l) held o)

    within : (pk : Packet) → Misses c ms pk → Misses (put l c) ms pk
    within pk miss m i o = miss m i (open_within c l (lit_field m) o).1

    misses : (pk : Packet) → Misses c ms pk → ¬ Holds pk l → Misses c ls pk
    misses pk miss n m k x = elim (in-either ms (l ∷ []) m (subst (λ (xs : List Lit). IsIn xs m) e k)) [
      | inl i ↦ miss m i x
      | inr i ↦ elim i [ inl s ↦ subst (λ (x : Lit). ¬ Holds pk x) s n | inr o ↦ absurd o ]
    ]

-- the test and both parts name few values
pub choice_few : (p : Tree) (l : Lit) (a b : Tree) → IsFew p → Tests p l → IsNamedBy p a → IsNamedBy p b → IsFew (Node l a b)
choice_few p l a b few tested ha hb = few_within p (Node l a b) few (record {
  tests = λ m k. elim k [ inl e ↦ subst (Tests p) e tested | inr k ↦ elim k [ inl w ↦ ha.tests m w | inr w ↦ hb.tests m w ] ];
  assigns = λ m k. elim k [ inl w ↦ ha.assigns m w | inr w ↦ hb.assigns m w ];
})

-- and so with the first copy
pub ended_few : (s : List Lit) (p : Tree) (l : Lit) (a b : Tree) → AreFew (Leaf (s ∷ [])) p → Tests p l → NamesOf s p a → NamesOf s p b → IsFew (Node l a b)
ended_few s p l a b few tested ha hb =
    let k = count_within (literals (Node l a b)) (literals (Leaf (s ∷ [])) ++ literals p) (λ m i. elim (named (Node l a b) m i) [
      | inl w ↦ in-right (literals (Leaf (s ∷ []))) (literals p) m (tests_literal p m (tests m w))
      | inr w ↦ elim (assigns m w) [
        | inl v ↦ in-left (literals (Leaf (s ∷ []))) (literals p) m (in-left s [] m v)
        | inr v ↦ in-right (literals (Leaf (s ∷ []))) (literals p) m (assigns_literal p m v)
      ]
    ]) in
    omega (arith, k, few.bound)
  where
    tests : (m : Lit) → Tests (Node l a b) m → Tests p m
    tests m k = elim k [ inl e ↦ subst (Tests p) e tested | inr k ↦ elim k [ inl w ↦ ha.tests m w | inr w ↦ hb.tests m w ] ]

    assigns : (m : Lit) → Assigns (Node l a b) m → IsIn s m ⊎ Assigns p m
    assigns m k = elim k [ inl w ↦ ha.assigns m w | inr w ↦ hb.assigns m w ]

pub star_of : (s : List Lit) (p : Tree) (c : Packet) (ls : List Lit) (r : Tree) → s ≡ [] → c ≡ whole_cell → ls ≡ [] → StarBut s p c ls r → StarOf p r
star_of s p c ls r first e none h = record {
  made = λ pk out k. h.made pk out (agrees pk) (misses pk) k;
  all = λ n pk out _ k. h.all n pk out (agrees pk) (misses pk) k;
  normal = h.normal;
  tests = h.names.tests;
  assigns = λ m k. elim (h.names.assigns m k) [ inl w ↦ absurd (subst (λ (xs : List Lit). IsIn xs m) first w) | inr w ↦ w ];
}
  where
    agrees : (pk : Packet) → Agrees c pk
    agrees pk = subst (λ (x : Packet). Agrees x pk) (sym e) (open_agrees pk)

    misses : (pk : Packet) → Misses c ls pk
    misses pk m i o k = subst (λ (xs : List Lit). IsIn xs m) none i

-- what has a star is not deep
pub star_shallow : (p r : Tree) → StarOf p r → IsShallow p
star_shallow p r s pk out d = d.late (s.made pk out (s.all d.made.0 pk out d.in_range d.made.2))
