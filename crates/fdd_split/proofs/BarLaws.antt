-- What lists bar that get one bar more.
use Rattle.std.proofs.Common.{◌≡◌, ◌⊎◌, inl, inr, sym, subst, List, [], ◌∷◌, ◌++◌}
use Rattle.nk_values.specs.declared.lit.Lit.{Lit}
use Rattle.fdd_nodes.specs.Trees.{Tree, Assigns}
use Rattle.fdd_split.specs.declared.bars.Bar.{Bar}
use Rattle.fdd_split.specs.Bars.{SomeBars, IsBarredBy, AddsBar, Narrows}

pub bars_pushed : (k : List Bar) (b : Bar) (y : Lit) → SomeBars (k ++ b ∷ []) y → SomeBars k y ⊎ IsBarredBy b y
bars_pushed [] b y (inl h) = inr h
bars_pushed [] b y (inr h) = absurd h
bars_pushed (c ∷ k) b y (inl h) = inl (inl h)
bars_pushed (c ∷ k) b y (inr h) = elim (bars_pushed k b y h) [ inl w ↦ inl (inr w) | inr w ↦ inr w ]

pub bars_kept : (k : List Bar) (b : Bar) (y : Lit) → SomeBars k y → SomeBars (k ++ b ∷ []) y
bars_kept [] b y h = absurd h
bars_kept (c ∷ k) b y (inl h) = inl h
bars_kept (c ∷ k) b y (inr h) = inr (bars_kept k b y h)

pub bars_last : (k : List Bar) (b : Bar) (y : Lit) → IsBarredBy b y → SomeBars (k ++ b ∷ []) y
bars_last [] b y h = inl h
bars_last (c ∷ k) b y h = inr (bars_last k b y h)

-- a bar more, in a list from which what it covers was left out
pub record Omits (old new : List Bar) (b : Bar) : Type 0 where
  pub kept : (x : Lit) → SomeBars old x → SomeBars new x ⊎ IsBarredBy b x
  pub only : (x : Lit) → SomeBars new x → SomeBars old x

pub omits_none : (b : Bar) → Omits [] [] b
omits_none b = record { kept = λ x h. inl h; only = λ x h. h }

pub omits_one : (old new : List Bar) (b c : Bar) → Omits old new b → ((x : Lit) → IsBarredBy c x → IsBarredBy b x) → Omits (old ++ c ∷ []) new b
omits_one old new b c h covers = record {
  kept = λ x w. elim (bars_pushed old c x w) [ inl v ↦ h.kept x v | inr v ↦ inr (covers x v) ];
  only = λ x w. bars_kept old c x (h.only x w);
}

pub omits_more : (old new : List Bar) (b c : Bar) → Omits old new b → Omits (old ++ c ∷ []) (new ++ c ∷ []) b
omits_more old new b c h = record {
  kept = λ x w. elim (bars_pushed old c x w) [
    | inl v ↦ elim (h.kept x v) [ inl z ↦ inl (bars_kept new c x z) | inr z ↦ inr z ]
    | inr v ↦ inl (bars_last new c x v)
  ];
  only = λ x w. elim (bars_pushed new c x w) [ inl v ↦ bars_kept old c x (h.only x v) | inr v ↦ bars_last old c x v ];
}

pub adds_last : (old new : List Bar) (b : Bar) → Omits old new b → AddsBar old (new ++ b ∷ []) b
adds_last old new b h = record {
  kept = λ x w. elim (h.kept x w) [ inl v ↦ bars_kept new b x v | inr v ↦ bars_last new b x v ];
  has = λ x w. bars_last new b x w;
  only = λ x w. elim (bars_pushed new b x w) [ inl v ↦ inl (h.only x v) | inr v ↦ inr v ];
}

pub narrows_more : (k j : List Bar) (b : Bar) (t : Tree) → AddsBar k j b → Narrows k j b t
narrows_more k j b t h = record { kept = h.kept; has = λ x s v. h.has x v; only = h.only }

pub narrows_same : (k j : List Bar) (b : Bar) (t : Tree) → j ≡ k → ((x : Lit) → Assigns t x → ¬ IsBarredBy b x) → Narrows k j b t
narrows_same k j b t e n = subst (λ (z : List Bar). Narrows k z b t) (sym e) (record {
  kept = λ x v. v;
  has = λ x s v. absurd (n x s v);
  only = λ x v. inl v;
})

pub narrows_as : (k j i : List Bar) (b : Bar) (t : Tree) → i ≡ j → Narrows k j b t → Narrows k i b t
narrows_as k j i b t e h = subst (λ (z : List Bar). Narrows k z b t) (sym e) h

pub narrows_of : (k i j : List Bar) (b : Bar) (t : Tree) → i ≡ k → Narrows i j b t → Narrows k j b t
narrows_of k i j b t e h = subst (λ (z : List Bar). Narrows z j b t) e h

pub narrows_last : (k j : List Bar) (b : Bar) (t : Tree) → j ≡ k ++ b ∷ [] → Narrows k j b t
narrows_last k j b t e = subst (λ (z : List Bar). Narrows k z b t) (sym e) (record {
  kept = λ x v. bars_kept k b x v;
  has = λ x s v. bars_last k b x v;
  only = λ x v. bars_pushed k b x v;
})
