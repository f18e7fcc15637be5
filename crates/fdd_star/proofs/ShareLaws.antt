-- Literals share a part where a diagram leaves the same of them.
use Rattle.std.proofs.Common.{◌≡◌, ◌⊎◌, ℕ, zero, suc, inl, inr, refl, ap, sym, ◌∙◌, subst, List, [], ◌∷◌}
use Rattle.std.proofs.lemmas.Bool.Decides.{eqb_tells}
use Rattle.nk_values.specs.declared.field.Field.{Field}
use Rattle.nk_values.specs.declared.packet.Packet.{Packet}
use Rattle.nk_values.specs.declared.lit.Lit.{Lit}
use Rattle.nk_values.specs.Held.{Holds, put}
use Rattle.nk_values.specs.Lits.{lit_field, lit_value}
use Rattle.nk_values.specs.Members.{IsIn}
use Rattle.nk_values.specs.Packets.{get}
use Rattle.nk_values.proofs.LitLaws.{same_lit}
use Rattle.nk_values.proofs.PacketLaws.{get-with_same, get-with_other, field_cases, same_packet}
use Rattle.fdd_nodes.specs.Cells.{Agrees, IsUnset}
use Rattle.fdd_nodes.specs.Trees.{Tree, Leaf, Node, leaf_at, apply, answers, SameAnswers, Assigns}
use Rattle.fdd_nodes.proofs.CellLaws.{agrees_with}
use Rattle.fdd_nodes.proofs.MakesLaws.{source, outcome, among_lists}
use Rattle.fdd_nodes.proofs.SplitLaws.{leaf_at-then, leaf_at-else}
use Rattle.fdd_star.specs.Reaches.{HoldsAll, Misses, StarBut}
use Rattle.fdd_star.specs.Stars.{Iterates}
use Rattle.fdd_star.proofs.FaultLaws.{open_besides, put_holds}
use Rattle.fdd_star.proofs.FillLaws.{leaf_assigns}
use Rattle.fdd_star.proofs.FirstLaws.{held_apart, put_held}
use Rattle.fdd_star.proofs.FieldLaws.{agrees_out}
use Rattle.fdd_star.proofs.StarLaws.{open_within}
use Rattle.fdd_store.specs.Operations.{LeavesOut}

-- literals put into a packet one after another

put_over : (j m : Lit) (x : Packet) → lit_field m ≡ lit_field j → put m (put j x) ≡ put m x
put_over j m x e = same_packet _ _ (λ f. elim (field_cases (lit_field m) f) [
  | inl s ↦ subst (λ (g : Field). get (put m (put j x)) g ≡ get (put m x) g) s (get-with_same (put j x) (lit_field m) (lit_value m) ∙ sym (get-with_same x (lit_field m) (lit_value m)))
  | inr d ↦ get-with_other (put j x) (lit_field m) f (lit_value m) d ∙ get-with_other x (lit_field j) f (lit_value j) (λ s. d (e ∙ s)) ∙ sym (get-with_other x (lit_field m) f (lit_value m) d)
])

pub put_beside : (j m : Lit) (x : Packet) → ¬ (lit_field m ≡ lit_field j) → put m (put j x) ≡ put j (put m x)
put_beside j m x n = same_packet _ _ (λ f. elim (field_cases (lit_field m) f) [
  | inl s ↦ subst (λ (g : Field). get (put m (put j x)) g ≡ get (put j (put m x)) g) s
      (get-with_same (put j x) (lit_field m) (lit_value m) ∙ sym (get-with_other (put m x) (lit_field j) (lit_field m) (lit_value j) (λ e. n (sym e)) ∙ get-with_same x (lit_field m) (lit_value m)))
  | inr d ↦ get-with_other (put j x) (lit_field m) f (lit_value m) d ∙ elim (field_cases (lit_field j) f) [
    | inl s ↦ subst (λ (g : Field). get (put j x) g ≡ get (put j (put m x)) g) s (get-with_same x (lit_field j) (lit_value j) ∙ sym (get-with_same (put m x) (lit_field j) (lit_value j)))
    | inr s ↦ get-with_other x (lit_field j) f (lit_value j) s ∙ sym (get-with_other (put m x) (lit_field j) f (lit_value j) s ∙ get-with_other x (lit_field m) f (lit_value m) d)
  ]
])

-- a diagram that leaves a field out comes to the same leaf whatever is there
pub leaf_same : (t : Tree) (f : Field) (x y : Packet) → LeavesOut f t → ((g : Field) → ¬ (f ≡ g) → get x g ≡ get y g) → leaf_at t x ≡ leaf_at t y
leaf_same (Leaf cs) f x y out same = refl
leaf_same (Node l t e) f x y out same =
    let at = same (lit_field l) (λ s. out l (inl refl) (sym s)) in
    elim (eqb_tells (get x (lit_field l)) (lit_value l)) [
      | inl h ↦ leaf_at-then l t e x h.1 ∙ leaf_same t f x y (λ m k. out m (inr (inl k))) same ∙ sym (leaf_at-then l t e y (sym at ∙ h.1))
      | inr n ↦ leaf_at-else l t e x n.1 ∙ leaf_same e f x y (λ m k. out m (inr (inr k))) same ∙ sym (leaf_at-else l t e y (λ h. n.1 (at ∙ h)))
    ]

module _ (i j : Lit) (field : lit_field j ≡ lit_field i) where
  -- y is x, but for j where x holds i
  record Stands (x y : Packet) : Type 0 where
    which : (Holds x i × (y ≡ put j x)) ⊎ ((¬ Holds x i) × (y ≡ x))

  stands_once : (x y z : Packet) → Stands x y → Stands x z → y ≡ z
  stands_once x y z g h = elim g.which [
    | inl u ↦ elim h.which [ inl v ↦ u.1 ∙ sym v.1 | inr v ↦ absurd (v.0 u.0) ]
    | inr u ↦ elim h.which [ inl v ↦ absurd (u.0 v.0) | inr v ↦ u.1 ∙ sym v.1 ]
  ]

  stands_put : (m : Lit) (x y : Packet) → ¬ (i ≡ m) → Stands x y → Stands (put m x) (put m y)
  stands_put m x y n s = record {
    which = elim s.which [
      | inl w ↦ elim (field_cases (lit_field m) (lit_field i)) [
        | inl e ↦ inr ((λ h. n (sym (same_lit m i e (sym (get-with_same x (lit_field m) (lit_value m)) ∙ ap (get (put m x)) e ∙ h)))), ap (put m) w.1 ∙ put_over j m x (e ∙ sym field))
        | inr d ↦ inl (get-with_other x (lit_field m) (lit_field i) (lit_value m) d ∙ w.0, ap (put m) w.1 ∙ put_beside j m x (λ e. d (e ∙ field)))
      ]
      | inr w ↦ inr ((λ h. elim (put_holds m i x h) [ inl e ↦ n (sym e) | inr u ↦ w.0 u ]), ap (put m) w.1)
    ];
  }

  stands_copy : (ls : List Lit) (x y : Packet) → ((m : Lit) → IsIn ls m → ¬ (i ≡ m)) → Stands x y → Stands (apply ls x) (apply ls y)
  stands_copy [] x y n s = s
  stands_copy (m ∷ ls) x y n s = stands_copy ls (put m x) (put m y) (λ k w. n k (inr w)) (stands_put m x y (n m (inl refl)) s)

  -- a diagram that answers as q where i or j holds, which leaves their field out, and that assigns no i
  module _ (p q : Tree) (at_i : (x : Packet) → Holds x i → SameAnswers (answers q x) (answers p x)) (at_j : (x : Packet) → Holds x j → SameAnswers (answers q x) (answers p x))
      (assigns : (m : Lit) → Assigns q m → Assigns p m) (out : LeavesOut (lit_field i) q) (unset : ¬ Assigns p i) where
    leaf_stands : (x : Packet) → leaf_at q x ≡ leaf_at q (put j x)
    leaf_stands x = leaf_same q (lit_field i) x (put j x) out (λ g d. sym (get-with_other x (lit_field j) g (lit_value j) (λ e. d (sym field ∙ e))))

    copy_stands : (t : Tree) (v x y : Packet) (c : List Lit) → ((m : Lit) → Assigns t m → Assigns p m) → IsIn (leaf_at t v) c → Stands x y → Stands (apply c x) (apply c y)
    copy_stands t v x y c named k = stands_copy c x y (λ m w e. unset (subst (Assigns p) (sym e) (named m (leaf_assigns t v m (among_lists (leaf_at t v) c m k w)))))

    answer_to : (x y z : Packet) → Stands x y → IsIn (answers p x) z → (r : Packet) × IsIn (answers p y) r × Stands z r
    answer_to x y z s k = elim s.which [
      | inl w ↦
          let o = source (leaf_at q x) x z ((at_i x w.0).back z k) in
          let among = subst (λ (cs : List (List Lit)). IsIn cs o.copy) (leaf_stands x) o.among in
          let made = (at_j (put j x) (get-with_same x (lit_field j) (lit_value j))).front _ (outcome (leaf_at q (put j x)) o.copy (put j x) among) in
          (apply o.copy y, subst (λ (v : Packet). IsIn (answers p v) (apply o.copy v)) (sym w.1) made, subst (λ (v : Packet). Stands v (apply o.copy y)) o.makes (copy_stands q x x y o.copy assigns o.among s))
      | inr w ↦
          let o = source (leaf_at p x) x z k in
          (apply o.copy y, subst (λ (v : Packet). IsIn (answers p v) (apply o.copy v)) (sym w.1) (outcome (leaf_at p x) o.copy x o.among), subst (λ (v : Packet). Stands v (apply o.copy y)) o.makes (copy_stands p x x y o.copy (λ m k. k) o.among s))
    ]

    answer_from : (x y r : Packet) → Stands x y → IsIn (answers p y) r → (z : Packet) × IsIn (answers p x) z × Stands z r
    answer_from x y r s k = elim s.which [
      | inl w ↦
          let o = source (leaf_at q (put j x)) (put j x) r ((at_j (put j x) (get-with_same x (lit_field j) (lit_value j))).back r (subst (λ (v : Packet). IsIn (answers p v) r) w.1 k)) in
          let among = subst (λ (cs : List (List Lit)). IsIn cs o.copy) (sym (leaf_stands x)) o.among in
          (apply o.copy x, (at_i x w.0).front _ (outcome (leaf_at q x) o.copy x among), subst (Stands (apply o.copy x)) (ap (apply o.copy) w.1 ∙ o.makes) (copy_stands q x x y o.copy assigns among s))
      | inr w ↦
          let o = source (leaf_at p x) x r (subst (λ (v : Packet). IsIn (answers p v) r) w.1 k) in
          (apply o.copy x, outcome (leaf_at p x) o.copy x o.among, subst (Stands (apply o.copy x)) (ap (apply o.copy) w.1 ∙ o.makes) (copy_stands p x x y o.copy (λ m k. k) o.among s))
    ]

    turns_to : (n : ℕ) (x y z : Packet) → Stands x y → Iterates p n x z → (r : Packet) × Iterates p n y r × Stands z r
    turns_to zero x y z s k = (y, refl, subst (λ (v : Packet). Stands v y) k s)
    turns_to (suc n) x y z s k = let a = answer_to x y k.0 s k.1 in let b = turns_to n k.0 a.0 z a.2 k.2 in (b.0, (a.0, a.1, b.1), b.2)

    turns_from : (n : ℕ) (x y r : Packet) → Stands x y → Iterates p n y r → (z : Packet) × Iterates p n x z × Stands z r
    turns_from zero x y r s k = (x, refl, subst (Stands x) k s)
    turns_from (suc n) x y r s k = let a = answer_from x y k.0 s k.1 in let b = turns_from n a.0 k.0 r a.2 k.2 in (b.0, (a.0, a.1, b.1), b.2)

  -- so the part where i holds is the part where j holds
  module _ (first : List Lit) (p q : Tree) (c : Packet) (ls : List Lit) (r : Tree) (held_first : HoldsAll c first) (at_i : (x : Packet) → Holds x i → SameAnswers (answers q x) (answers p x)) (at_j : (x : Packet) → Holds x j → SameAnswers (answers q x) (answers p x))
      (assigns : (m : Lit) → Assigns q m → Assigns p m) (past : LeavesOut (lit_field i) q) (unset : ¬ Assigns p i) (o : IsUnset c (lit_field i)) (h : StarBut first p (put i c) ls r) where
    itself : (x : Packet) → SameAnswers (answers r x) (answers r x)
    itself x = record { front = λ z k. k; back = λ z k. k }

    outside : LeavesOut (lit_field i) r
    outside m k e = (open_within c i (lit_field m) (h.is_unset m k)).0 (sym e)

    unset_too : ¬ Assigns r i
    unset_too w = elim (h.names.assigns i w) [ inl v ↦ held_apart first c (lit_field i) held_first o i v refl | inr v ↦ unset v ]

    moved : (m : Lit) → IsUnset (put i c) (lit_field m) → IsUnset (put j c) (lit_field m)
    moved m w = let v = open_within c i (lit_field m) w in open_besides j c (lit_field m) (λ e. v.0 (sym field ∙ e)) v.1

    inner : (pk : Packet) → Agrees (put j c) pk → Agrees (put i c) (put i pk)
    inner pk a =
        let b = agrees_out c pk j (subst (IsUnset c) (sym field) o) a in
        agrees_with c (put i pk) i (get-with_same pk (lit_field i) (lit_value i)) (record { at = λ f n. get-with_other pk (lit_field i) f (lit_value i) (λ e. n (subst (IsUnset c) e o)) ∙ b.at f n })

    misses : (pk : Packet) → Misses (put j c) ls pk → Misses (put i c) ls (put i pk)
    misses pk miss m k w held = elim (put_holds i m pk held) [ inl e ↦ (open_within c i (lit_field m) w).0 (ap lit_field e) | inr u ↦ miss m k (moved m w) u ]

    stands : (pk : Packet) → Holds pk j → Stands (put i pk) pk
    stands pk held = record { which = inl (get-with_same pk (lit_field i) (lit_value i), sym (put_over i j pk field ∙ put_held j pk held)) }

    pub star_shared : StarBut first p (put j c) ls r
    star_shared = record {
      made = λ pk out a miss k.
          let x = answer_from r r (λ v _. itself v) (λ v _. itself v) (λ m w. w) outside unset_too (put i pk) pk out (stands pk (held pk a)) k in
          let w = h.made (put i pk) x.0 (inner pk a) (misses pk miss) x.1 in
          let y = turns_to p q at_i at_j assigns past unset w.0 (put i pk) pk x.0 (stands pk (held pk a)) w.2 in
          (w.0, w.1, subst (Iterates p w.0 pk) (stands_once x.0 y.0 out y.2 x.2) y.1);
      all = λ n pk out a miss k.
          let x = turns_from p q at_i at_j assigns past unset n (put i pk) pk out (stands pk (held pk a)) k in
          let y = answer_to r r (λ v _. itself v) (λ v _. itself v) (λ m w. w) outside unset_too (put i pk) pk x.0 (stands pk (held pk a)) (h.all n (put i pk) x.0 (inner pk a) (misses pk miss) x.1) in
          subst (IsIn (answers r pk)) (stands_once x.0 y.0 out y.2 x.2) y.1;
      normal = h.normal;
      names = h.names;
      is_unset = λ m k. moved m (h.is_unset m k);
      first = h.first;
    }
      where
        held : (pk : Packet) → Agrees (put j c) pk → Holds pk j
        held pk a = a.at (lit_field j) (λ z. (open_within c j (lit_field j) z).0 refl) ∙ get-with_same c (lit_field j) (lit_value j)
