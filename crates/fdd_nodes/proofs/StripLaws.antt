-- What is dropped from copies.
use Rattle.std.proofs.Common.{◌≡◌, ◌≢◌, ℕ, ◌+◌, ◌≤◌, inl, inr, refl, ap, sym, ◌∙◌, subst, arith, Bool, cond, List, [], ◌∷◌}
use Rattle.std.proofs.lemmas.Bool.Decides.{eqb_tells}
use Rattle.nk_values.specs.declared.field.Field.{Field}
use Rattle.nk_values.specs.declared.packet.Packet.{Packet}
use Rattle.nk_values.specs.declared.lit.Lit.{Lit}
use Rattle.nk_values.specs.Held.{Holds, put}
use Rattle.nk_values.specs.Lits.{lit_field, lit_value}
use Rattle.nk_values.specs.Members.{IsIn}
use Rattle.nk_values.specs.Packets.{get, with_value}
use Rattle.nk_values.specs.Ranges.{place}
use Rattle.nk_values.proofs.PacketLaws.{get-with_same, get-with_other, same_packet, field_cases}
use Rattle.fdd_nodes.specs.Trees.{apply, IsSetBy}
use Rattle.fdd_nodes.specs.Copies.{IsCopyFrom, strip}
use Rattle.fdd_nodes.specs.Cells.{IsUnset}
use Rattle.fdd_nodes.specs.Makes.{IsDisjointFrom}
use Rattle.fdd_nodes.proofs.CellLaws.{lit_not_free}

with_there : (p : Packet) (f : Field) (n : ℕ) → get p f ≡ n → with_value p f n ≡ p
with_there p f n h = same_packet _ _ (λ g. elim (field_cases f g) [
  | inl e ↦ subst (λ (g' : Field). get (with_value p f n) g' ≡ get p g') e (get-with_same p f n ∙ sym h)
  | inr d ↦ get-with_other p f g n d
])

later_other : (l : Lit) (f : Field) → place (lit_field l) + 1 ≤ place f → lit_field l ≢ f
later_other l f h e = let k : place (lit_field l) ≡ place f = ap place e in omega (arith, h, k)

-- what is dropped is what the packet has
pub strip_apply : (c : Packet) (x : List Lit) (k : ℕ) (p : Packet) → IsCopyFrom k x → ((f : Field) → k ≤ place f → ¬ IsUnset c f → get p f ≡ get c f) → apply (strip c x) p ≡ apply x p
strip_apply c [] k p h g = refl
strip_apply c (l ∷ x) k p h g = elim (eqb_tells (get c (lit_field l)) (lit_value l)) [
  | inl y ↦
      let here : Holds p l = g (lit_field l) h.0 (λ z. lit_not_free l (sym y.1 ∙ z)) ∙ y.1 in
      ap (λ b. apply (cond b (strip c x) (l ∷ strip c x)) p) y.0
      ∙ strip_apply c x (place (lit_field l) + 1) p h.1 (λ f m. g f (omega (arith, m, h.0)))
      ∙ ap (λ (q : Packet). apply x q) (sym (with_there p (lit_field l) (lit_value l) here))
  | inr n ↦
      ap (λ b. apply (cond b (strip c x) (l ∷ strip c x)) p) n.0
      ∙ strip_apply c x (place (lit_field l) + 1) (put l p) h.1
      (λ f m z. get-with_other p (lit_field l) f (lit_value l) (later_other l f m) ∙ g f (omega (arith, m, h.0)) z)
]

-- where a cell fixes nothing of a copy, nothing is dropped
pub strip_disjoint : (c : Packet) (x : List Lit) → IsDisjointFrom c x → strip c x ≡ x
strip_disjoint c [] h = refl
strip_disjoint c (l ∷ x) h = elim (eqb_tells (get c (lit_field l)) (lit_value l)) [
  | inl y ↦ absurd (h.0 y.1)
  | inr n ↦ ap (λ b. cond b (strip c x) (l ∷ strip c x)) n.0 ∙ ap (λ (y : List Lit). l ∷ y) (strip_disjoint c x h.1)
]

pub strip_among : (c : Packet) (x : List Lit) (m : Lit) → IsIn (strip c x) m → IsIn x m × (¬ Holds c m)
strip_among c [] m h = absurd h
strip_among c (l ∷ x) m h = elim (eqb_tells (get c (lit_field l)) (lit_value l)) [
  | inl y ↦
      let r = strip_among c x m (subst (λ (b : Bool). IsIn (cond b (strip c x) (l ∷ strip c x)) m) y.0 h) in
      (inr r.0, r.1)
  | inr n ↦
      let h' : IsIn (l ∷ strip c x) m = subst (λ (b : Bool). IsIn (cond b (strip c x) (l ∷ strip c x)) m) n.0 h in
      elim h' [
        | inl e ↦ (inl e, subst (λ (z : Lit). ¬ Holds c z) e n.1)
        | inr k ↦ let r = strip_among c x m k in (inr r.0, r.1)
      ]
]

copy_weaken : (x : List Lit) (j k : ℕ) → j ≤ k → IsCopyFrom k x → IsCopyFrom j x
copy_weaken [] j k h o = tt
copy_weaken (l ∷ x) j k h o = (omega (arith, h, o.0), o.1)

pub strip_copy : (c : Packet) (x : List Lit) (k : ℕ) → IsCopyFrom k x → IsCopyFrom k (strip c x)
strip_copy c [] k h = tt
strip_copy c (l ∷ x) k h = elim (eqb_tells (get c (lit_field l)) (lit_value l)) [
  | inl y ↦ subst (λ (b : Bool). IsCopyFrom k (cond b (strip c x) (l ∷ strip c x))) (sym y.0) (copy_weaken (strip c x) k (place (lit_field l) + 1) (omega (arith, h.0)) (strip_copy c x _ h.1))
  | inr n ↦ subst (λ (b : Bool). IsCopyFrom k (cond b (strip c x) (l ∷ strip c x))) (sym n.0) (h.0, strip_copy c x _ h.1)
]

-- a copy that has a literal of a leaf
pub record Holder (cs : List (List Lit)) (m : Lit) : Type 0 where
  pub copy : List Lit
  pub among : IsIn cs copy
  pub has : IsIn copy m

pub holder : (cs : List (List Lit)) (m : Lit) → IsSetBy cs m → Holder cs m
holder [] m h = absurd h
holder (c ∷ cs) m (inl h) = record { copy = c; among = inl refl; has = h }
holder (c ∷ cs) m (inr h) = let r = holder cs m h in record { copy = r.copy; among = inr r.among; has = r.has }
