-- Nodes that were made stay right when another one is kept, and when the store grows.
use Rattle.std.specs.Prelude.{slice_get}
use Rattle.std.proofs.Common.{◌≡◌, ◌⊎◌, inl, inr, ℕ, zero, suc, refl, sym, ◌∙◌, ap, subst, List, [], ◌∷◌, ◌++◌, length, set, Option, Some, None}
use Rattle.std.specs.declared.alloc.Global.{Global}
use Rattle.std.specs.declared.rc.Rc.{Rc}
use Rattle.fdd_nodes.specs.declared.node.Node as rust
use Rattle.fdd_store.specs.declared.nodes.Nodes.{Nodes}
use Rattle.fdd_store.specs.NodeLists.{AreNodes, AreNodesOf, IsNodeOf}
use Rattle.fdd_store.specs.Stores.{Kept, Grows}
use Rattle.fdd_store.proofs.StoreLaws.{has_grown, tree_grown}

last_or : {X : Type 0} (xs : List X) (y z : X) (i : ℕ) → slice_get (xs ++ y ∷ []) i ≡ Some z → (slice_get xs i ≡ Some z) ⊎ ((i ≡ length xs) × (y ≡ z))
last_or [] y z zero e = inr (refl, cc)
last_or [] y z (suc i) e = absurd (let w : None ≡ Some z = e in cc)
last_or (x ∷ xs) y z zero e = inl e
last_or (x ∷ xs) y z (suc i) e = elim (last_or xs y z i e) [ inl h ↦ inl h | inr h ↦ inr (ap suc h.0, h.1) ]

set_or : {X : Type 0} (xs : List X) (i : ℕ) (y z : X) (j : ℕ) → slice_get (set xs i y) j ≡ Some z → (slice_get xs j ≡ Some z) ⊎ ((j ≡ i) × (y ≡ z))
set_or [] i y z j e = inl e
set_or (x ∷ xs) zero y z zero e = inr (refl, cc)
set_or (x ∷ xs) zero y z (suc j) e = inl e
set_or (x ∷ xs) (suc i) y z zero e = inl e
set_or (x ∷ xs) (suc i) y z (suc j) e = elim (set_or xs i y z j e) [ inl h ↦ inl h | inr h ↦ inr (ap suc h.0, h.1) ]

same_node : (r q : Rc rust.Node Global) → Some r ≡ Some q → r ≡ q
same_node r q e = cc

module _ (k : Kept) (ns : List (Option (Rc rust.Node Global))) where
  pub nothing_added : AreNodesOf k ns → AreNodesOf k (ns ++ None ∷ [])
  nothing_added h a r e = elim (last_or ns None (Some r) a e) [ inl s ↦ h a r s | inr n ↦ absurd (let w : None ≡ Some r = n.1 in cc) ]

  pub node_added : (b : ℕ) (q : Rc rust.Node Global) → length ns ≡ b → AreNodesOf k ns → IsNodeOf k b q → AreNodesOf k (ns ++ Some q ∷ [])
  node_added b q n h w a r e = elim (last_or ns (Some q) (Some r) a e) [
    | inl s ↦ h a r s
    | inr m ↦ subst (λ (z : Rc rust.Node Global). IsNodeOf k a z) (same_node q r m.1) (subst (λ (y : ℕ). IsNodeOf k y q) (sym n ∙ sym m.0) w)
  ]

  pub node_set : (b c : ℕ) (q : Rc rust.Node Global) → c ≡ b → AreNodesOf k ns → IsNodeOf k b q → AreNodesOf k (set ns c (Some q))
  node_set b c q n h w a r e = elim (set_or ns c (Some q) (Some r) a e) [
    | inl s ↦ h a r s
    | inr m ↦ subst (λ (z : Rc rust.Node Global). IsNodeOf k a z) (same_node q r m.1) (subst (λ (y : ℕ). IsNodeOf k y q) (sym (m.0 ∙ n)) w)
  ]

-- in a store that grows
pub nodes_grown : (old new : Kept) (n : Nodes) → Grows old new → AreNodes old n → AreNodes new n
nodes_grown old new n g h a r e = let w = h a r e in (has_grown old new a g w.0, w.1 ∙ sym (tree_grown old new a g w.0))
