-- The parts of diagrams to which literals lead.
use Rattle.std.proofs.Common.{◌≡◌, ◌≢◌, ℕ, ◌⊎◌, inl, inr, refl, ap, sym, ◌∙◌, subst, arith, Bool, cond, eqb}
use Rattle.std.proofs.lemmas.Bool.Decides.{eqb_tells}
use Rattle.nk_values.specs.declared.field.Field.{Field}
use Rattle.nk_values.specs.declared.packet.Packet.{Packet}
use Rattle.nk_values.specs.declared.lit.Lit.{Lit}
use Rattle.nk_values.specs.Held.{Holds, put}
use Rattle.nk_values.specs.Lits.{lit_field, lit_value}
use Rattle.nk_values.specs.Packets.{get}
use Rattle.nk_values.specs.Ranges.{place}
use Rattle.nk_values.proofs.LitLaws.{lit_small}
use Rattle.nk_values.proofs.PacketLaws.{get-with_same, get-with_other, same_field, field_cases}
use Rattle.fdd_nodes.specs.Trees.{Tree, Leaf, Node, answers, SameAnswers, IsOrderedFrom, Tests, Assigns}
use Rattle.fdd_nodes.specs.Cells.{Respects, IsUnset, whole_cell}
use Rattle.fdd_nodes.specs.Names.{IsFew}
use Rattle.fdd_nodes.specs.Normals.{IsTight}
use Rattle.fdd_nodes.proofs.SplitLaws.{ordered_weaken}
use Rattle.fdd_nodes.proofs.CellLaws.{lit_not_free, get-open}
use Rattle.fdd_store.specs.Operations.{part_at, CofactorOf}
use Rattle.fdd_store.proofs.ForkLaws.{node_then_as, node_else_as}
use Rattle.fdd_store.proofs.SameLaws.{same_leaf, same_trans}
use Rattle.fdd_ops.proofs.OperationLaws.{few_of_one}

-- a cell that fixes less asks less

abbrev Less : Packet → Packet → Type 0
Less c c' = (f : Field) → (IsUnset c' f) ⊎ (get c' f ≡ get c f)

less_with : (c c' : Packet) (l : Lit) → Less c c' → Less (put l c) (put l c')
less_with c c' l h f = elim (field_cases (lit_field l) f) [
  | inl e ↦ inr (subst (λ (g : Field). get (put l c') g ≡ get (put l c) g) e (get-with_same c' (lit_field l) (lit_value l) ∙ sym (get-with_same c (lit_field l) (lit_value l))))
  | inr n ↦ elim (h f) [
    | inl k ↦ inl (get-with_other c' (lit_field l) f (lit_value l) n ∙ k)
    | inr k ↦ inr (get-with_other c' (lit_field l) f (lit_value l) n ∙ k ∙ sym (get-with_other c (lit_field l) f (lit_value l) n))
  ]
]

respects_less : (t : Tree) (c c' : Packet) → Less c c' → Respects c t → Respects c' t
respects_less (Leaf cs) c c' h r = λ m k z. elim (h (lit_field m)) [ inl w ↦ lit_not_free m (sym z ∙ w) | inr w ↦ r m k (sym w ∙ z) ]
respects_less (Node l t e) c c' h r = (respects_less t _ _ (less_with c c' l h) r.0, respects_less e c c' h r.1)

less_one : (c : Packet) (l : Lit) → IsUnset c (lit_field l) → Less (put l c) c
less_one c l o f = elim (field_cases (lit_field l) f) [
  | inl e ↦ inl (subst (λ (g : Field). IsUnset c g) e o)
  | inr n ↦ inr (sym (get-with_other c (lit_field l) f (lit_value l) n))
]

-- r is a part of a, where l holds
record IsPart (l : Lit) (a r : Tree) : Type 0 where
  same : (p : Packet) → Holds p l → SameAnswers (answers r p) (answers a p)
  ordered : (k : ℕ) → IsOrderedFrom k a → IsOrderedFrom k r
  respects : Respects whole_cell a → Respects whole_cell r
  tight : IsTight a → IsTight r
  tests : (m : Lit) → Tests r m → Tests a m
  assigns : (m : Lit) → Assigns r m → Assigns a m

whole : (l : Lit) (a : Tree) → IsPart l a a
whole l a = record {
  same = λ p h. same_leaf a a p refl;
  ordered = λ k o. o;
  respects = λ r. r;
  tight = λ t. t;
  tests = λ m k. k;
  assigns = λ m k. k;
}

of_then : (l m : Lit) (t e : Tree) → place (lit_field m) ≡ place (lit_field l) → lit_value m ≡ lit_value l → IsPart l (Node m t e) t
of_then l m t e f v = record {
  same = λ p h. node_then_as m t e p (ap (λ g. get p g) (same_field _ _ f) ∙ h ∙ sym v);
  ordered = λ k o. ordered_weaken t k _ (omega (arith, o.0, lit_small m)) o.1;
  respects = λ r. respects_less t _ whole_cell (less_one whole_cell m (get-open (lit_field m))) r.0;
  tight = λ w. w.1;
  tests = λ n k. inr (inl k);
  assigns = λ n k. inl k;
}

of_else : (l m : Lit) (t e r : Tree) → place (lit_field m) ≡ place (lit_field l) → lit_value m ≢ lit_value l → IsPart l e r → IsPart l (Node m t e) r
of_else l m t e r f v h = record {
  same = λ p y. same_trans _ _ _ (h.same p y) (node_else_as m t e p (λ k. v (sym k ∙ ap (λ g. get p g) (same_field _ _ f) ∙ y)));
  ordered = λ k o. h.ordered k (ordered_weaken e k _ (omega (arith, o.0)) o.2);
  respects = λ q. h.respects q.1;
  tight = λ w. h.tight w.2;
  tests = λ n k. inr (inr (h.tests n k));
  assigns = λ n k. inr (h.assigns n k);
}

is_part : (l : Lit) (a : Tree) → IsPart l a (part_at l a)
is_part l (Leaf cs) = whole l (Leaf cs)
is_part l (Node m t e) = elim (eqb_tells (place (lit_field m)) (place (lit_field l))) [
  | inl y ↦ subst (λ (b : Bool). IsPart l (Node m t e) (cond b (cond (eqb (lit_value m) (lit_value l)) t (part_at l e)) (Node m t e))) (sym y.0)
      (elim (eqb_tells (lit_value m) (lit_value l)) [
        | inl v ↦ subst (λ (b : Bool). IsPart l (Node m t e) (cond b t (part_at l e))) (sym v.0) (of_then l m t e y.1 v.1)
        | inr v ↦ subst (λ (b : Bool). IsPart l (Node m t e) (cond b t (part_at l e))) (sym v.0) (of_else l m t e _ y.1 v.1 (is_part l e))
      ])
  | inr n ↦ subst (λ (b : Bool). IsPart l (Node m t e) (cond b (cond (eqb (lit_value m) (lit_value l)) t (part_at l e)) (Node m t e))) (sym n.0) (whole l (Node m t e))
]

pub part_few : (l : Lit) (a : Tree) → IsFew a → IsFew (part_at l a)
part_few l a few = let h = is_part l a in few_of_one a (part_at l a) h.tests h.assigns few

pub part_ordered : (l : Lit) (a : Tree) (k : ℕ) → IsOrderedFrom k a → IsOrderedFrom k (part_at l a)
part_ordered l a = (is_part l a).ordered

pub part_cofactor : (l : Lit) (a : Tree) → CofactorOf l a (part_at l a)
part_cofactor l a =
    let h = is_part l a in
    record {
      answer = h.same;
      stands = λ _. refl;
      normal = λ n. record { ordered = h.ordered 0 n.ordered; respects = h.respects n.respects; tight = h.tight n.tight };
      tests = h.tests;
      assigns = h.assigns;
    }
