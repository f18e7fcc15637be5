-- What decides normality.
use Rattle.std.specs.Prelude.{IsTrue, ◌↔◌}
use Rattle.std.proofs.Common.{◌+◌, ◌*◌, inl, inr, refl, subst, arith, Bool, false, List, [], ◌∷◌}
use Rattle.std.proofs.lemmas.Bool.{false≢true}
use Rattle.nk_values.specs.declared.packet.Packet.{Packet}
use Rattle.nk_values.specs.declared.lit.Lit.{Lit}
use Rattle.nk_values.specs.Held.{Holds}
use Rattle.nk_values.specs.Lits.{lit_field}
use Rattle.nk_values.specs.Members.{IsIn}
use Rattle.nk_values.specs.Ranges.{place}
use Rattle.nk_values.specs.Ranks.{step, rank}
use Rattle.nk_values.proofs.LitLaws.{lit_small}
use Rattle.fdd_nodes.specs.Trees.{Tree, Leaf, Node, IsOrderedFrom}
use Rattle.fdd_nodes.specs.Roots.{IsAfter}
use Rattle.fdd_nodes.specs.Makes.{IsDisjointFrom, AreDisjointFrom}
use Rattle.fdd_nodes.specs.Cells.{cell_of, Alike, IsFresh, Parts, Respects}
use Rattle.fdd_nodes.specs.Normals.{IsPast, TellsTight}
use Rattle.fdd_nodes.proofs.SplitLaws.{ordered_weaken}
use Rattle.fdd_nodes.proofs.CellLaws.{not_redundant, cell_agrees}

past_ordered : (l : Lit) (t : Tree) → IsPast l t → IsOrderedFrom 0 t → IsOrderedFrom (step * (place (lit_field l) + 1)) t
past_ordered l (Leaf cs) h o = tt
past_ordered l (Node m t e) h o = (h, o.1, o.2)

ordered_past' : (l : Lit) (t : Tree) → IsOrderedFrom (step * (place (lit_field l) + 1)) t → IsPast l t
ordered_past' l (Leaf cs) o = tt
ordered_past' l (Node m t e) o = o.0

after_ordered' : (l : Lit) (t : Tree) → IsAfter l t → IsOrderedFrom 0 t → IsOrderedFrom (rank l + 1) t
after_ordered' l (Leaf cs) h o = tt
after_ordered' l (Node m t e) h o = (omega (arith, h), o.1, o.2)

ordered_after : (l : Lit) (t : Tree) → IsOrderedFrom (rank l + 1) t → IsAfter l t
ordered_after l (Leaf cs) o = tt
ordered_after l (Node m t e) o = omega (arith, o.0)

pub ordered_of : (l : Lit) (t e : Tree) → IsPast l t → IsAfter l e → IsOrderedFrom 0 t → IsOrderedFrom 0 e → IsOrderedFrom 0 (Node l t e)
ordered_of l t e p a ot oe = (omega arith, past_ordered l t p ot, after_ordered' l e a oe)

pub of_ordered : (l : Lit) (t e : Tree) → IsOrderedFrom 0 (Node l t e) → IsPast l t × IsAfter l e × IsOrderedFrom 0 t × IsOrderedFrom 0 e
of_ordered l t e o = (ordered_past' l t o.1, ordered_after l e o.2, ordered_weaken t 0 _ (omega arith) o.1, ordered_weaken e 0 _ (omega arith) o.2)

-- leaves

free_of : (c : Packet) (x : List Lit) → IsDisjointFrom c x → (m : Lit) → IsIn x m → ¬ Holds c m
free_of c [] h m k = absurd k
free_of c (l ∷ x) h m (inl e) = subst (λ (z : Lit). ¬ Holds c z) e h.0
free_of c (l ∷ x) h m (inr k) = free_of c x h.1 m k

of_free : (c : Packet) (x : List Lit) → ((m : Lit) → IsIn x m → ¬ Holds c m) → IsDisjointFrom c x
of_free c [] h = tt
of_free c (l ∷ x) h = (h l (inl refl), of_free c x (λ m k. h m (inr k)))

pub respects_leaf : (c : Packet) (xs : List (List Lit)) → AreDisjointFrom c xs ↔ Respects c (Leaf xs)
respects_leaf c [] = (λ h m k. absurd k, λ h. tt)
respects_leaf c (x ∷ xs) = (
  λ h m k. elim k [ inl w ↦ free_of c x h.0 m w | inr w ↦ (respects_leaf c xs).0 h.1 m w ],
  λ h. (of_free c x (λ m k. h m (inl k)), (respects_leaf c xs).1 (λ m k. h m (inr k))),
)

-- tightness

fresh_t : (g : Packet) (l : Lit) (t e : Tree) → IsFresh g (Node l t e) → IsFresh g t
fresh_t g l t e h = record { tested = λ m k. h.tested m (inr (inl k)); assigned = λ m k. h.assigned m (inl k) }

fresh_e : (g : Packet) (l : Lit) (t e : Tree) → IsFresh g (Node l t e) → IsFresh g e
fresh_e g l t e h = record { tested = λ m k. h.tested m (inr (inr k)); assigned = λ m k. h.assigned m (inr k) }

pub tight_node : (l : Lit) (t e : Tree) (q : Packet) (x y : Bool) → Parts (cell_of l) t e q → TellsTight t x → IsTrue x → TellsTight e y → TellsTight (Node l t e) y
tight_node l t e q x y h ht tx he = record {
  yes = λ w o g r f.
      let ft = fresh_t g l t e f in
      let fe = fresh_e g l t e f in
      let ot = ordered_weaken t 0 _ (omega arith) o.1 in
      let oe = ordered_weaken e 0 _ (omega arith) o.2 in
      (not_redundant l t e q g h (ordered_weaken t _ _ (omega (arith, lit_small l)) o.1) o.2 r ft fe, ht.yes tx ot g r ft, he.yes w oe g r fe);
  no = λ w. he.no w.2;
}

pub loose_first : (l : Lit) (t e : Tree) (x : Bool) → TellsTight t x → (IsTrue x → ⊥) → TellsTight (Node l t e) false
loose_first l t e x h n = record { yes = λ w. absurd (false≢true w); no = λ w. absurd (n (h.no w.1)) }

pub loose_here : (l : Lit) (t e : Tree) → Alike (cell_of l) t e → TellsTight (Node l t e) false
loose_here l t e h = record {
  yes = λ w. absurd (false≢true w);
  no = λ w. absurd (w.0 (record { same = λ p r y. h.same p (cell_agrees l p y) }));
}
