-- How a first test splits a diagram.
use Rattle.std.proofs.Common.{◌≡◌, ◌≢◌, ℕ, ◌+◌, ◌<◌, ◌≤◌, ◌⊎◌, inl, inr, refl, ap, sym, ◌∙◌, subst, arith, Bool, true, false, cond, eqb}
use Rattle.std.proofs.lemmas.Bool.{eq-eqb, ne_eqb, eqb-true, eqb-false}
use Rattle.nk_values.specs.declared.packet.Packet.{Packet}
use Rattle.nk_values.specs.declared.lit.Lit.{Lit}
use Rattle.nk_values.specs.Held.{Holds}
use Rattle.nk_values.specs.Packets.{get}
use Rattle.nk_values.specs.Ranks.{rank}
use Rattle.nk_values.proofs.LitLaws.{lit_small, rank_field, rank_value}
use Rattle.fdd_nodes.specs.Trees.{Tree, Leaf, Node, leaf_at, IsOrderedFrom, Tests, Assigns}
use Rattle.fdd_nodes.specs.Roots.{HasRoot, IsFrom, IsFirst, then_part, else_part}

pub leaf_at-then : (l : Lit) (t e : Tree) (p : Packet) → Holds p l → leaf_at (Node l t e) p ≡ leaf_at t p
leaf_at-then l t e p h = ap (λ b. cond b (leaf_at t p) (leaf_at e p)) (eq-eqb _ _ h)

pub leaf_at-else : (l : Lit) (t e : Tree) (p : Packet) → ¬ Holds p l → leaf_at (Node l t e) p ≡ leaf_at e p
leaf_at-else l t e p h = ap (λ b. cond b (leaf_at t p) (leaf_at e p)) (ne_eqb _ _ h)

-- a1 is a where l holds, and a0 is a where it does not
pub record Splits (l : Lit) (a a1 a0 : Tree) : Type 0 where
  pub then_leaf : (p : Packet) → Holds p l → leaf_at a p ≡ leaf_at a1 p
  pub else_leaf : (p : Packet) → ¬ Holds p l → leaf_at a p ≡ leaf_at a0 p
  pub then_ordered : (k : ℕ) → IsOrderedFrom k a → IsOrderedFrom (rank l + 1) a1
  pub else_ordered : (k : ℕ) → IsOrderedFrom k a → IsOrderedFrom (rank l + 1) a0
  pub then_tests : (m : Lit) → Tests a1 m → Tests a m
  pub else_tests : (m : Lit) → Tests a0 m → Tests a m
  pub then_assigns : (m : Lit) → Assigns a1 m → Assigns a m
  pub else_assigns : (m : Lit) → Assigns a0 m → Assigns a m

pub ordered_weaken : (t : Tree) (j k : ℕ) → j ≤ k → IsOrderedFrom k t → IsOrderedFrom j t
ordered_weaken (Leaf cs) j k h o = tt
ordered_weaken (Node l t e) j k h o = (omega (arith, h, o.0), o.1, o.2)

same_test : (l m : Lit) (p : Packet) → rank m ≡ rank l → Holds p l → Holds p m
same_test l m p r h = ap (λ f. get p f) (rank_field m l r) ∙ h ∙ sym (rank_value m l r)

splits_by : (l m : Lit) (t e : Tree) (b : Bool) → eqb (rank m) (rank l) ≡ b → rank l ≤ rank m → Splits l (Node m t e) (cond b t (Node m t e)) (cond b e (Node m t e))
splits_by l m t e true r h = let r' : rank m ≡ rank l = eqb-true _ _ r in record {
  then_leaf = λ p k. leaf_at-then m t e p (same_test l m p r' k);
  else_leaf = λ p k. leaf_at-else m t e p (λ k'. k (same_test m l p (sym r') k'));
  then_ordered = λ k o. ordered_weaken t _ _ (omega (arith, r', lit_small m)) o.1;
  else_ordered = λ k o. ordered_weaken e _ _ (omega (arith, r')) o.2;
  then_tests = λ n k. inr (inl k);
  else_tests = λ n k. inr (inr k);
  then_assigns = λ n k. inl k;
  else_assigns = λ n k. inr k;
}
splits_by l m t e false r h = let r' : rank m ≢ rank l = eqb-false _ _ r in record {
  then_leaf = λ p k. refl;
  else_leaf = λ p k. refl;
  then_ordered = λ k o. (omega (arith, h, r'), o.1, o.2);
  else_ordered = λ k o. (omega (arith, h, r'), o.1, o.2);
  then_tests = λ n k. k;
  else_tests = λ n k. k;
  then_assigns = λ n k. k;
  else_assigns = λ n k. k;
}

pub splits : (l : Lit) (a : Tree) → IsFrom l a → Splits l a (then_part l a) (else_part l a)
splits l (Leaf cs) h = record {
  then_leaf = λ p k. refl;
  else_leaf = λ p k. refl;
  then_ordered = λ k o. tt;
  else_ordered = λ k o. tt;
  then_tests = λ n k. k;
  else_tests = λ n k. k;
  then_assigns = λ n k. k;
  else_assigns = λ n k. k;
}
splits l (Node m t e) h = splits_by l m t e (eqb (rank m) (rank l)) refl h

root_from : (l : Lit) (a : Tree) (k : ℕ) → HasRoot l a → IsOrderedFrom k a → k ≤ rank l
root_from l (Leaf cs) k h o = absurd h
root_from l (Node m t e) k h o = subst (λ (x : Lit). k ≤ rank x) h o.0

-- what is ordered from k has its first test from k on
pub first_from : (l : Lit) (a b : Tree) (k : ℕ) → IsFirst l a b → IsOrderedFrom k a → IsOrderedFrom k b → k ≤ rank l
first_from l a b k f oa ob = elim f.one [ inl h ↦ root_from l a k h oa | inr h ↦ root_from l b k h ob ]

-- the sum of two sizes falls where the first test is taken away
pub sizes_fall : (sa sb ra rb : ℕ) (A B : Type 0) → A ⊎ B → ra ≤ sa → rb ≤ sb → (A → ra < sa) → (B → rb < sb) → ra + rb < sa + sb
sizes_fall sa sb ra rb A B (inl h) wa wb fa fb = omega (arith, fa h)
sizes_fall sa sb ra rb A B (inr h) wa wb fa fb = omega (arith, fb h)

root_tested : (l : Lit) (a : Tree) → HasRoot l a → Tests a l
root_tested l (Leaf cs) h = absurd h
root_tested l (Node m t e) h = inl h

pub first_tested : (l : Lit) (a b : Tree) → IsFirst l a b → Tests a l ⊎ Tests b l
first_tested l a b f = elim f.one [ inl h ↦ inl (root_tested l a h) | inr h ↦ inr (root_tested l b h) ]

-- the parts of a, under names of their own
pub splits_of : (l : Lit) (a a1 a0 : Tree) → IsFrom l a → a1 ≡ then_part l a → a0 ≡ else_part l a → Splits l a a1 a0
splits_of l a a1 a0 h e1 e0 = subst (λ (x : Tree). Splits l a x a0) (sym e1) (subst (λ (x : Tree). Splits l a (then_part l a) x) (sym e0) (splits l a h))
