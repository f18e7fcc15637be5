-- What the first difference of rising rows tells of all of them.
use Rattle.std.proofs.Common.{◌≡◌, ◌≢◌, ℕ, ◌⊎◌, List, [], ◌∷◌, refl, sym, ap, subst, ◌∙◌, inl, inr, arith}
use Rattle.std.specs.declared.cmp.Ordering.TheVariants.{Less, Equal, Greater}
use Rattle.nk_values.specs.declared.row.Row.{Row}
use Rattle.nk_values.specs.Members.{IsIn, Within, SameMembers}
use Rattle.nk_values.specs.Tables.{SameKey, Distinct}
use Rattle.openflow_wire.specs.KeyOrder.{key_cmp}
use Rattle.openflow_wire.proofs.Keys.{same-equal, equal-same}
use Rattle.flow_audit.specs.declared.verdict.Verdict.{Verdict}
use Rattle.flow_audit.specs.declared.verdict.Verdict.TheVariants.{Same, Missing, Surplus, Actions}
use Rattle.std.specs.List.Sorted.{IsPermutation}
use Rattle.openflow_wire.specs.KeyOrder.{IsUp, IsRising}
use Rattle.flow_audit.specs.Verdicts.{AgreeBefore, IsMissing, IsSurplus, AreOther, IsVerdict, Differ, AreCompared}
use Rattle.openflow_wire.proofs.RankLaws.{order, flip-greater, flip-equal, flip-less, self, ranked-rising, moved-members}

-- the first of rising rows is the least
not-before : (x : Row) (xs : List Row) → IsRising (x ∷ xs) → (s : Row) → IsIn (x ∷ xs) s → ¬ (key_cmp s x ≡ Less)
not-before x xs up s (inl e) l = (let a = subst (λ (z : Row). key_cmp z x ≡ Less) (sym e) l in let b = self x in cc)
not-before x xs up s (inr m) l = (let a = flip-less x s (up.0 s m) in cc)

-- all are above a row that the first is above
all-above : (p x : Row) (xs : List Row) → IsRising (x ∷ xs) → key_cmp p x ≡ Less → (s : Row) → IsIn (x ∷ xs) s → key_cmp p s ≡ Less
all-above p x xs up l s (inl e) = subst (λ (z : Row). key_cmp p z ≡ Less) e l
all-above p x xs up l s (inr m) = order.trans p x s l (up.0 s m)

above-new : (p s : Row) → key_cmp p s ≡ Less → ¬ SameKey s p.pattern p.priority
above-new p s l k = (let a = flip-equal s p (same-equal s p k) in cc)

above-not : (p s : Row) → key_cmp p s ≡ Less → ¬ (key_cmp s p ≡ Less)
above-not p s l b = (let a = flip-less p s l in cc)

empty-missing : (p : Row) (ps : List Row) → IsRising (p ∷ ps) → IsMissing (p ∷ ps) [] p
empty-missing p ps up = record {
  among = inl refl;
  lacking = λ r m k. m;
  least = record { planned_are = λ s l m. absurd (not-before p ps up s m l); reported_are = λ s l m. absurd m };
}

empty-surplus : (q : Row) (qs : List Row) → IsRising (q ∷ qs) → IsSurplus [] (q ∷ qs) q
empty-surplus q qs up = record {
  among = inl refl;
  lacking = λ r m k. m;
  least = record { planned_are = λ s l m. absurd m; reported_are = λ s l m. absurd (not-before q qs up s m l) };
}

first-missing : (p q : Row) (ps qs : List Row) → IsRising (p ∷ ps) → IsRising (q ∷ qs) → key_cmp p q ≡ Less → IsMissing (p ∷ ps) (q ∷ qs) p
first-missing p q ps qs a b l = record {
  among = inl refl;
  lacking = λ r m k. above-new p r (all-above p q qs b l r m) k;
  least = record {
    planned_are = λ s lt m. absurd (not-before p ps a s m lt);
    reported_are = λ s lt m. absurd (above-not p s (all-above p q qs b l s m) lt);
  };
}

first-surplus : (p q : Row) (ps qs : List Row) → IsRising (p ∷ ps) → IsRising (q ∷ qs) → key_cmp p q ≡ Greater → IsSurplus (p ∷ ps) (q ∷ qs) q
first-surplus p q ps qs a b g =
    let l = flip-greater p q g in
    record {
      among = inl refl;
      lacking = λ r m k. above-new q r (all-above q p ps a l r m) k;
      least = record {
        planned_are = λ s lt m. absurd (above-not q s (all-above q p ps a l s m) lt);
        reported_are = λ s lt m. absurd (not-before q qs b s m lt);
      };
    }

first-other : (p q : Row) (ps qs : List Row) → IsRising (p ∷ ps) → IsRising (q ∷ qs) → SameKey q p.pattern p.priority → p.actions ≢ q.actions → AreOther (p ∷ ps) (q ∷ qs) p q
first-other p q ps qs a b k ne =
    let e : key_cmp p q ≡ Equal = flip-equal q p (same-equal q p k) in
    record {
      among_planned = inl refl;
      among_reported = inl refl;
      one_key = k;
      other = ne;
      least = record {
        planned_are = λ s lt m. absurd (not-before p ps a s m lt);
        reported_are = λ s lt m. absurd (not-before q qs b s m (flip-greater q s (sym (order.congr p q s e) ∙ flip-less s p lt)));
      };
    }

-- ---- after a row that both have

lift : (x : Row) (ps qs : List Row) → Within ps qs → Within (x ∷ ps) (x ∷ qs)
lift x ps qs h s (inl e) = inl e
lift x ps qs h s (inr m) = inr (h s m)

lift-before : (x r : Row) (ps qs : List Row) → AgreeBefore ps qs r → AgreeBefore (x ∷ ps) (x ∷ qs) r
lift-before x r ps qs h = record {
  planned_are = λ s l m. elim m [ inl e ↦ inl e | inr k ↦ inr (h.planned_are s l k) ];
  reported_are = λ s l m. elim m [ inl e ↦ inl e | inr k ↦ inr (h.reported_are s l k) ];
}

lift-new : (x r : Row) (xs ys : List Row) → IsRising (x ∷ xs) → IsIn xs r → ((s : Row) → IsIn ys s → ¬ SameKey s r.pattern r.priority)
    → (s : Row) → IsIn (x ∷ ys) s → ¬ SameKey s r.pattern r.priority
lift-new x r xs ys up m h s (inl e) k = (let a = same-equal x r (subst (λ (z : Row). SameKey z r.pattern r.priority) (sym e) k) in let b = up.0 r m in cc)
lift-new x r xs ys up m h s (inr n) k = h s n k

behind : (x : Row) (ps qs : List Row) (v : Verdict) → IsRising (x ∷ ps) → IsRising (x ∷ qs) → IsVerdict ps qs v → IsVerdict (x ∷ ps) (x ∷ qs) v
behind x ps qs Same a b h = record { front = lift x ps qs h.front; back = lift x qs ps h.back }
behind x ps qs (Missing r) a b h =
    record { among = inr h.among; lacking = lift-new x r ps qs a h.among h.lacking; least = lift-before x r ps qs h.least }
behind x ps qs (Surplus r) a b h =
    record { among = inr h.among; lacking = lift-new x r qs ps b h.among h.lacking; least = lift-before x r ps qs h.least }
behind x ps qs (Actions p q) a b h =
    record { among_planned = inr h.among_planned; among_reported = inr h.among_reported; one_key = h.one_key; other = h.other; least = lift-before x p ps qs h.least }

-- ---- all of it

pub verdict-of : (ps qs : List Row) (v : Verdict) → IsRising ps → IsRising qs → AreCompared ps qs v → IsVerdict ps qs v
verdict-of [] [] v a b e = subst (λ (w : Verdict). IsVerdict [] [] w) (sym e) (record { front = λ s m. m; back = λ s m. m })
verdict-of [] (q ∷ qs) v a b e = subst (λ (w : Verdict). IsVerdict [] (q ∷ qs) w) (sym e) (empty-surplus q qs b)
verdict-of (p ∷ ps) [] v a b e = subst (λ (w : Verdict). IsVerdict (p ∷ ps) [] w) (sym e) (empty-missing p ps a)
verdict-of (p ∷ ps) (q ∷ qs) v a b (inl (inl d)) =
    subst (λ (w : Verdict). IsVerdict (p ∷ ps) (q ∷ qs) w) (sym d.1) (first-missing p q ps qs a b d.0)
verdict-of (p ∷ ps) (q ∷ qs) v a b (inl (inr (inl d))) =
    subst (λ (w : Verdict). IsVerdict (p ∷ ps) (q ∷ qs) w) (sym d.1) (first-surplus p q ps qs a b d.0)
verdict-of (p ∷ ps) (q ∷ qs) v a b (inl (inr (inr d))) =
    subst (λ (w : Verdict). IsVerdict (p ∷ ps) (q ∷ qs) w) (sym d.2) (first-other p q ps qs a b d.0 d.1)
verdict-of (p ∷ ps) (q ∷ qs) v a b (inr h) =
    let c : IsRising (p ∷ qs) = subst (λ (z : Row). IsRising (z ∷ qs)) (sym h.0) b in
    subst (λ (z : Row). IsVerdict (p ∷ ps) (z ∷ qs) v) h.0 (behind p ps qs v a c (verdict-of ps qs v a.1 b.1 h.1))

-- the order of rows says nothing

before-moves : (ps qs ps' qs' : List Row) (r : Row) → SameMembers ps ps' → SameMembers qs qs' → AgreeBefore ps qs r → AgreeBefore ps' qs' r
before-moves ps qs ps' qs' r a b h = record {
  planned_are = λ s l m. b.front s (h.planned_are s l (a.back s m));
  reported_are = λ s l m. a.front s (h.reported_are s l (b.back s m));
}

pub verdict-moves : (ps qs ps' qs' : List Row) (v : Verdict) → SameMembers ps ps' → SameMembers qs qs' → IsVerdict ps qs v → IsVerdict ps' qs' v
verdict-moves ps qs ps' qs' Same a b h = record { front = λ s m. b.front s (h.front s (a.back s m)); back = λ s m. a.front s (h.back s (b.back s m)) }
verdict-moves ps qs ps' qs' (Missing r) a b h =
    record { among = a.front r h.among; lacking = λ s m. h.lacking s (b.back s m); least = before-moves ps qs ps' qs' r a b h.least }
verdict-moves ps qs ps' qs' (Surplus r) a b h =
    record { among = b.front r h.among; lacking = λ s m. h.lacking s (a.back s m); least = before-moves ps qs ps' qs' r a b h.least }
verdict-moves ps qs ps' qs' (Actions p q) a b h = record {
  among_planned = a.front p h.among_planned;
  among_reported = b.front q h.among_reported;
  one_key = h.one_key;
  other = h.other;
  least = before-moves ps qs ps' qs' p a b h.least;
}

-- rows of one key with the same actions are one
pub one-row : (p q : Row) → key_cmp p q ≡ Equal → p.actions ≡ q.actions → p ≡ q
one-row p q e a = let k = equal-same p q e in λ i. record { pattern = k.same_pattern i; priority = k.same_priority i; actions = a i }

pub others : (p q : Row) → key_cmp p q ≡ Equal → p.actions ≢ q.actions → Differ p q (Actions p q)
others p q e ne = inr (inr (equal-same q p (flip-equal p q e), ne, refl))

-- the verdict on rows that were put into order
pub audited : (planned plan told rows : List Row) (v : Verdict) → Distinct planned → IsPermutation planned plan → IsUp plan → IsPermutation told rows → IsRising rows
    → AreCompared plan rows v → IsVerdict planned told v
audited planned plan told rows v d moved up moved_rows rising c =
    verdict-moves plan rows planned told v (moved-members planned plan moved) (moved-members told rows moved_rows) (verdict-of plan rows v (ranked-rising planned plan d moved up) rising c)
