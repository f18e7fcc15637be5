-- Threats of branches and of what is narrowed.
use Rattle.std.proofs.Common.{◌≡◌, ◌≢◌, ℕ, ◌⊎◌, inl, inr, refl, ap, sym, ◌∙◌, subst, arith, List}
use Rattle.nk_values.specs.declared.field.Field.{Field}
use Rattle.nk_values.specs.declared.packet.Packet.{Packet}
use Rattle.nk_values.specs.declared.lit.Lit.{Lit}
use Rattle.nk_values.specs.Held.{Holds, put}
use Rattle.nk_values.specs.Lits.{lit_field, lit_value}
use Rattle.nk_values.specs.Members.{IsIn}
use Rattle.nk_values.specs.Packets.{with_value}
use Rattle.nk_values.specs.Ranges.{place}
use Rattle.nk_values.specs.Ranks.{rank}
use Rattle.nk_values.proofs.PacketLaws.{get-with_same, same_field, field_cases}
use Rattle.fdd_nodes.specs.Trees.{Tree, Leaf, Node, leaf_at, Tests, Assigns}
use Rattle.fdd_nodes.specs.Cells.{unset}
use Rattle.fdd_nodes.specs.Copies.{IsCopy}
use Rattle.fdd_nodes.proofs.SplitLaws.{leaf_at-then, leaf_at-else}
use Rattle.fdd_store.specs.Canonical.{AreProper, IsLater}
use Rattle.fdd_store.proofs.MoveLaws.{one_leaf}
use Rattle.fdd_split.specs.declared.bars.Bar.{Bar}
use Rattle.fdd_split.specs.declared.bars.Bar.TheVariants.{OfField, Literal}
use Rattle.fdd_split.specs.Bars.{SomeBars, IsBarredBy}
use Rattle.fdd_split.specs.Threats.{Threat, IsClear}
use Rattle.fdd_split.proofs.AnswerLaws.{holds_or, alone_assigned}
use Rattle.fdd_split.proofs.CopyLaws.{moved, holds_other, held_other, not_free, one_held, one_put, held}

pub leaf_copy : (t : Tree) (p : Packet) (c : List Lit) → AreProper t → IsIn (leaf_at t p) c → IsCopy c
leaf_copy (Leaf cs) p c h k = h.copies c k
leaf_copy (Node l t e) p c h k = elim (holds_or p l) [
  | inl y ↦ leaf_copy t p c h.0 (subst (λ (x : List (List Lit)). IsIn x c) (leaf_at-then l t e p y) k)
  | inr n ↦ leaf_copy e p c h.1 (subst (λ (x : List (List Lit)). IsIn x c) (leaf_at-else l t e p n) k)
]

-- a diagram that does not test a field
pub leaf_other : (t : Tree) (p : Packet) (f : Field) (n : ℕ) → ((m : Lit) → Tests t m → f ≢ lit_field m) → leaf_at t p ≡ leaf_at t (with_value p f n)
leaf_other t p f n h = one_leaf t p (with_value p f n) (λ m k. (holds_other p f n m (h m k), held_other p f n m (h m k)))

-- a packet without a number in a field holds nothing barred, if it held nothing that is barred but at that field
pub clear_without : (k j : List Bar) (p : Packet) (f : Field) → IsClear k p → ((y : Lit) → SomeBars j y → SomeBars k y ⊎ (f ≡ lit_field y)) → IsClear j (with_value p f unset)
clear_without k j p f h o y b w = elim (field_cases f (lit_field y)) [
  | inl e ↦ not_free p f y e w
  | inr d ↦ elim (o y b) [
    | inl z ↦ h y z (held_other p f unset y d w)
    | inr z ↦ d z
  ]
]

module _ (k j : List Bar) (m : Lit) (t e : Tree) (x : Lit) where
  -- a threat where a test holds
  pub down_yes : AreProper t → ((n : Lit) → Tests t n → lit_field m ≢ lit_field n) → ¬ Assigns t m → ((y : Lit) → SomeBars j y → SomeBars k y ⊎ IsBarredBy (OfField (place (lit_field m))) y) → (h : Threat k (Node m t e) x) → Holds h.packet m → Threat j t x
  down_yes pr past clean only h y =
      let p : Packet = h.packet in
      let q : Packet = with_value p (lit_field m) unset in
      let same : leaf_at (Node m t e) p ≡ leaf_at t q = leaf_at-then m t e p y ∙ leaf_other t p (lit_field m) unset past in
      let there : leaf_at (Node m t e) p ≡ leaf_at t p = leaf_at-then m t e p y in
      let in_one : IsIn (leaf_at t p) h.one = subst (λ (z : List (List Lit)). IsIn z h.one) there h.has_one in
      let in_other : IsIn (leaf_at t p) h.other = subst (λ (z : List (List Lit)). IsIn z h.other) there h.has_other in
      record {
        packet = q;
        clear = clear_without k j p (lit_field m) h.clear (λ z b. elim (only z b) [ inl w ↦ inl w | inr w ↦ inr (sym (same_field _ _ w)) ]);
        one = h.one;
        other = h.other;
        has_one = subst (λ (z : List (List Lit)). IsIn z h.one) same h.has_one;
        has_other = subst (λ (z : List (List Lit)). IsIn z h.other) same h.has_other;
        same = moved h.one h.other p q (leaf_copy t p h.one pr in_one) (leaf_copy t p h.other pr in_other) h.same
            (λ z a w. elim (field_cases (lit_field m) (lit_field z)) [
              | inl s ↦
                  absurd (clean (subst (λ (v : Lit). Assigns t v) (sym (one_held p m z s y w)) (alone_assigned t p h.one h.other z in_one in_other a)))
              | inr d ↦ holds_other p (lit_field m) unset z d w
            ]);
        alone = h.alone;
      }

  -- and where it does not hold
  pub down_no : ((y : Lit) → SomeBars j y → SomeBars k y ⊎ IsBarredBy (Literal m) y) → (h : Threat k (Node m t e) x) → ¬ Holds h.packet m → Threat j e x
  down_no only h n =
      let there : leaf_at (Node m t e) h.packet ≡ leaf_at e h.packet = leaf_at-else m t e h.packet n in
      record {
        packet = h.packet;
        clear = λ y b w. elim (only y b) [ inl z ↦ h.clear y z w | inr z ↦ n (subst (λ (v : Lit). Holds h.packet v) (sym z) w) ];
        one = h.one;
        other = h.other;
        has_one = subst (λ (z : List (List Lit)). IsIn z h.one) there h.has_one;
        has_other = subst (λ (z : List (List Lit)). IsIn z h.other) there h.has_other;
        same = h.same;
        alone = h.alone;
      }

  -- a threat of the branch where a test holds is one of the whole
  pub up_yes : AreProper t → ((n : Lit) → Tests t n → lit_field m ≢ lit_field n) → ¬ SomeBars k m → ((y : Lit) → SomeBars k y → SomeBars j y) → ((y : Lit) → Assigns t y → IsBarredBy (OfField (place (lit_field m))) y → SomeBars j y) → Threat j t x → Threat k (Node m t e) x
  up_yes pr past un kept has h =
      let p : Packet = h.packet in
      let q : Packet = put m p in
      let y : Holds q m = get-with_same p (lit_field m) (lit_value m) in
      let same : leaf_at t p ≡ leaf_at (Node m t e) q = leaf_other t p (lit_field m) (lit_value m) past ∙ sym (leaf_at-then m t e q y) in
      record {
        packet = q;
        clear = λ z b w. elim (field_cases (lit_field m) (lit_field z)) [
          | inl s ↦ un (subst (λ (v : Lit). SomeBars k v) (sym (one_put p m z s w)) b)
          | inr d ↦ h.clear z (kept z b) (held_other p (lit_field m) (lit_value m) z d w)
        ];
        one = h.one;
        other = h.other;
        has_one = subst (λ (z : List (List Lit)). IsIn z h.one) same h.has_one;
        has_other = subst (λ (z : List (List Lit)). IsIn z h.other) same h.has_other;
        same = moved h.one h.other p q (leaf_copy t p h.one pr h.has_one) (leaf_copy t p h.other pr h.has_other) h.same
            (λ z a w. elim (field_cases (lit_field m) (lit_field z)) [
              | inl s ↦ absurd (h.clear z (has z (alone_assigned t p h.one h.other z h.has_one h.has_other a) (ap place (sym s))) w)
              | inr d ↦ holds_other p (lit_field m) (lit_value m) z d w
            ]);
        alone = h.alone;
      }

  -- and of the branch where it does not hold
  pub up_no : AreProper e → IsLater m e → ((y : Lit) → SomeBars k y → SomeBars j y) → ((y : Lit) → Assigns e y → IsBarredBy (Literal m) y → SomeBars j y) → Threat j e x → Threat k (Node m t e) x
  up_no pr later kept has h = elim (holds_or h.packet m) [
    | inl y ↦
        let p : Packet = h.packet in
        let q : Packet = with_value p (lit_field m) unset in
        let n : ¬ Holds q m = not_free p (lit_field m) m refl in
        let leaf : leaf_at e p ≡ leaf_at e q = one_leaf e p q (λ z w. elim (field_cases (lit_field m) (lit_field z)) [
          | inl s ↦ (
            (λ v. let r : rank m ≡ rank z = ap rank (one_held p m z s y v) in let o = later z w in absurd (omega (arith, r, o))),
            λ v. absurd (not_free p (lit_field m) z s v),
          )
          | inr d ↦ (holds_other p (lit_field m) unset z d, held_other p (lit_field m) unset z d)
        ]) in
        let same : leaf_at e p ≡ leaf_at (Node m t e) q = leaf ∙ sym (leaf_at-else m t e q n) in
        record {
          packet = q;
          clear = clear_without j k p (lit_field m) h.clear (λ z b. inl (kept z b));
          one = h.one;
          other = h.other;
          has_one = subst (λ (z : List (List Lit)). IsIn z h.one) same h.has_one;
          has_other = subst (λ (z : List (List Lit)). IsIn z h.other) same h.has_other;
          same = moved h.one h.other p q (leaf_copy e p h.one pr h.has_one) (leaf_copy e p h.other pr h.has_other) h.same
              (λ z a w. elim (field_cases (lit_field m) (lit_field z)) [
                | inl s ↦ absurd (h.clear z (has z (alone_assigned e p h.one h.other z h.has_one h.has_other a) (one_held p m z s y w)) w)
                | inr d ↦ holds_other p (lit_field m) unset z d w
              ]);
          alone = h.alone;
        }
    | inr n ↦
        let there : leaf_at e h.packet ≡ leaf_at (Node m t e) h.packet = sym (leaf_at-else m t e h.packet n) in
        record {
          packet = h.packet;
          clear = λ z b w. h.clear z (kept z b) w;
          one = h.one;
          other = h.other;
          has_one = subst (λ (z : List (List Lit)). IsIn z h.one) there h.has_one;
          has_other = subst (λ (z : List (List Lit)). IsIn z h.other) there h.has_other;
          same = h.same;
          alone = h.alone;
        }
  ]

-- where less is barred
pub threat_less : (k j : List Bar) (a : Tree) (x : Lit) → ((y : Lit) → SomeBars k y → SomeBars j y) → Threat j a x → Threat k a x
threat_less k j a x kept h = record {
  packet = h.packet;
  clear = λ z b w. h.clear z (kept z b) w;
  one = h.one;
  other = h.other;
  has_one = h.has_one;
  has_other = h.has_other;
  same = h.same;
  alone = h.alone;
}

-- a threat is of a literal that is not barred
pub threat_free : (k : List Bar) (a : Tree) (x : Lit) → AreProper a → Threat k a x → ¬ SomeBars k x
threat_free k a x pr h b =
    h.clear x b (held h.one h.other h.packet x (leaf_copy a h.packet h.one pr h.has_one) (leaf_copy a h.packet h.other pr h.has_other) h.same h.alone)
