-- Diagrams beside others after a test.
use Rattle.std.proofs.Common.{◌≡◌, ℕ, inl, inr, subst, []}
use Rattle.nk_values.specs.declared.lit.Lit.{Lit}
use Rattle.fdd_nodes.specs.Trees.{Tree, Leaf}
use Rattle.fdd_store.specs.Canonical.{IsBeyond}
use Rattle.fdd_store.specs.Results.{Cuts, Rests, Unites, Forks, Joins}
use Rattle.fdd_store.specs.Stores.{Kept, tree_at, Has, Gives, Grows}
use Rattle.fdd_store.proofs.SameLaws.{same_trans}
use Rattle.fdd_store.proofs.StoreLaws.{tree_grown, gives_grown, has_grown}
use Rattle.fdd_store.proofs.UniteLaws.{union_as, unites_beyond}

joins : (l : Lit) (a b x y v t r : Tree) → Cuts l a x → Cuts l b y → Unites x y t → Rests l b v → Forks l t v r → Joins l a b r
joins l a b x y v t r cx cy u rv k = record {
  yes = λ p w. union_as _ _ _ _ _ _ (cx.same p w) (cy.same p w) (k.yes p w) (u.union p);
  no = λ p w. same_trans _ _ _ (k.no p w) (rv.same p w);
  tests = λ m w. elim (k.tests m w) [
    | inl s ↦ inl s
    | inr s ↦ elim s [
      | inl q ↦ elim (u.tests m q) [ inl z ↦ inr (inl (cx.tests m z)) | inr z ↦ inr (inr (cy.tests m z)) ]
      | inr q ↦ inr (inr (rv.tests m q))
    ]
  ];
  assigns = λ m w. elim (k.assigns m w) [
    | inl q ↦ elim (u.assigns m q) [ inl z ↦ inl (cx.assigns m z) | inr z ↦ inr (cy.assigns m z) ]
    | inr q ↦ inr (rv.assigns m q)
  ];
}

-- no test comes before the literal
module _ (k0 k1 k2 k3 : Kept) (l : Lit) (a b x y yes no : ℕ) (hb : Has k0 b)
    (g1 : Grows k0 k1) (gx : Gives k1 x (Cuts l (tree_at k0 a)))
    (g2 : Grows k1 k2) (gy : Gives k2 y (Cuts l (tree_at k1 b)))
    (g3 : Grows k2 k3) (gt : Gives k3 yes (Unites (tree_at k2 x) (tree_at k2 y)))
    (gv : Gives k3 no (Rests l (tree_at k3 b))) where
  cut_a : Cuts l (tree_at k0 a) (tree_at k2 x)
  cut_a = (gives_grown k1 k2 x _ g2 gx).is

  cut_b : Cuts l (tree_at k0 b) (tree_at k2 y)
  cut_b = subst (λ (t : Tree). Cuts l t (tree_at k2 y)) (tree_grown k0 k1 b g1 hb) gy.is

  rest_b : Rests l (tree_at k0 b) (tree_at k3 no)
  rest_b =
      let h1 = has_grown k0 k1 b g1 hb in
      let h2 = has_grown k1 k2 b g2 h1 in
      subst (λ (t : Tree). Rests l t (tree_at k3 no)) (tree_grown k0 k1 b g1 hb)
      (subst (λ (t : Tree). Rests l t (tree_at k3 no)) (tree_grown k1 k2 b g2 h1)
      (subst (λ (t : Tree). Rests l t (tree_at k3 no)) (tree_grown k2 k3 b g3 h2) gv.is))

  pub added_yes : Gives k3 yes (IsBeyond l)
  added_yes = record { has = gt.has; made = gt.made; is = unites_beyond l _ _ _ cut_a.beyond cut_b.beyond gt.is }

  pub added : (r : Tree) → Forks l (tree_at k3 yes) (tree_at k3 no) r → Joins l (tree_at k0 a) (tree_at k0 b) r
  added r w = joins l _ _ _ _ _ _ r cut_a cut_b gt.is rest_b w

-- some test comes before it

joins_front : (l : Lit) (a b f r : Tree) → Forks l a (Leaf []) f → Unites f b r → Joins l a b r
joins_front l a b f r k u = record {
  yes = λ p w. union_as _ _ _ _ _ _ (k.yes p w) (record { front = λ x h. h; back = λ x h. h }) (record { front = λ x h. h; back = λ x h. h }) (u.union p);
  no = λ p w. record {
    front = λ x h. elim ((u.union p).only x h) [ inl z ↦ absurd ((k.no p w).front x z) | inr z ↦ z ];
    back = λ x h. (u.union p).right x h;
  };
  tests = λ m w. elim (u.tests m w) [
    | inl q ↦ elim (k.tests m q) [ inl s ↦ inl s | inr s ↦ elim s [ inl z ↦ inr (inl z) | inr z ↦ absurd z ] ]
    | inr q ↦ inr (inr q)
  ];
  assigns = λ m w. elim (u.assigns m w) [ inl q ↦ elim (k.assigns m q) [ inl z ↦ inl z | inr z ↦ absurd z ] | inr q ↦ inr q ];
}

pub joined_front : (k0 k1 k2 : Kept) (l : Lit) (a b none front : ℕ) (r : Tree) → Has k0 a → Has k0 b → Grows k0 k1 → Gives k1 none (λ t. t ≡ Leaf []) → Grows k1 k2 → Gives k2 front (Forks l (tree_at k1 a) (tree_at k1 none)) → Unites (tree_at k2 front) (tree_at k2 b) r → Joins l (tree_at k0 a) (tree_at k0 b) r
joined_front k0 k1 k2 l a b none front r ha hb g1 gn g2 gf u =
    joins_front l (tree_at k0 a) (tree_at k0 b) (tree_at k2 front) r
    (subst (λ (t : Tree). Forks l t (Leaf []) (tree_at k2 front)) (tree_grown k0 k1 a g1 ha)
    (subst (λ (t : Tree). Forks l (tree_at k1 a) t (tree_at k2 front)) gn.is gf.is))
    (subst (λ (t : Tree). Unites (tree_at k2 front) t r) (tree_grown k0 k1 b g1 hb)
    (subst (λ (t : Tree). Unites (tree_at k2 front) t r) (tree_grown k1 k2 b g2 (has_grown k0 k1 b g1 hb)) u))
