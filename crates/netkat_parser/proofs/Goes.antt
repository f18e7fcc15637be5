-- Reading goes on from a position, sign by sign.
use Rattle.std.proofs.Common.{◌≡◌, ◌≢◌, ℕ, ◌+◌, inl, inr, Bool, true, false, List, [], ◌∷◌, ◌++◌, refl, sym, ap, ◌∙◌, subst, append_assoc}
use Rattle.nk_values.specs.declared.text_fault.TextFault.{TextFault}
use Rattle.nk_syntax.specs.Terms.{Term, Filter, One, Zero, Dup}
use Rattle.nk_syntax.specs.Terms as to
use Rattle.netkat_parser.specs.declared.sign.Sign.{Sign}
use Rattle.netkat_parser.specs.declared.sign.Sign.TheVariants as to_sign
use Rattle.netkat_parser.specs.declared.sign.Sign.TheVariants.{Plus, Semicolon, Close, End}
use Rattle.netkat_parser.specs.Signs.{sign}
use Rattle.netkat_parser.specs.Grammar.{Spot, Got, Read, Bad, step, stray, strays, gathered, sum_of, seq_of, negated, closed, closed_by, starred, starred_by, ended_by, Opens, IsLeaf, IsPolicy, AreSummands, IsSequence, AreFactors, IsUnary, sum, last_summand, more_summands, sequence, last_factor, more_factors, negation, post, bracket, leaf}
use Rattle.netkat_parser.proofs.Rules.{starred-not}
use Rattle.netkat_parser.specs.Going.{Frame, Negated, Bracketed, depth_of, is_inside, MoreFactors, MoreSummands, MakesPolicy, Leads, Operand, Behind, ComesIn}

-- one more in front
longer : (xs : List Term) (x : Term) (o : Got (List Term)) (y : Term)
    → gathered (λ zs. (xs ++ x ∷ []) ++ y ∷ zs) o ≡ gathered (λ zs. xs ++ x ∷ zs) (gathered (λ zs. y ∷ zs) o)
longer xs x (Read zs s) y = ap (λ l. Read l s) (append_assoc xs (x ∷ []) (y ∷ zs))
longer xs x (Bad e at) y = refl

module _ (depth : ℕ) (inside : Bool) where
  factors-of : (s : Spot) (u : Got Term) (o : Got (List Term)) → IsUnary depth inside s u → MoreFactors depth inside [] u o → AreFactors depth inside s o
  factors-of s (Read p t) o h (inl k) = subst (AreFactors depth inside s) (sym k.1) (last_factor depth inside s (Read p t) h k.0)
  factors-of s (Read p t) o h (inr k) = subst (AreFactors depth inside s) (sym k.3) (more_factors depth inside s p t k.1 h k.0 k.2)
  factors-of s (Bad e at) o h k = subst (AreFactors depth inside s) (sym k) (last_factor depth inside s (Bad e at) h tt)

  summands-of : (s : Spot) (u : Got Term) (o : Got (List Term)) → IsSequence depth inside s u → MoreSummands depth inside [] u o → AreSummands depth inside s o
  summands-of s (Read p t) o h (inl k) = subst (AreSummands depth inside s) (sym k.1) (last_summand depth inside s (Read p t) h k.0)
  summands-of s (Read p t) o h (inr k) = subst (AreSummands depth inside s) (sym k.3) (more_summands depth inside s p t k.1 h k.0 k.2)
  summands-of s (Bad e at) o h k = subst (AreSummands depth inside s) (sym k) (last_summand depth inside s (Bad e at) h tt)

  pub policy-of : (s : Spot) (u o : Got Term) → IsUnary depth inside s u → MakesPolicy depth inside [] [] u o → IsPolicy depth inside s o
  policy-of s u o h k =
      let f = factors-of s u k.0 h k.1 in
      let g = summands-of s (gathered seq_of k.0) k.2 (sequence depth inside s k.0 f) k.3 in
      subst (IsPolicy depth inside s) (sym k.4) (sum depth inside s k.2 g)

  fewer-factors : (qs : List Term) (p : Term) (u : Got Term) (o : Got (List Term)) → MoreFactors depth inside (qs ++ p ∷ []) u o
      → (m : Got (List Term)) × MoreFactors depth inside [] u m × (o ≡ gathered (λ ps. qs ++ p ∷ ps) m)
  fewer-factors qs p (Read q t) o (inl k) = (Read (q ∷ []) t, inl (k.0, refl), k.1 ∙ ap (λ l. Read l t) (append_assoc qs (p ∷ []) (q ∷ [])))
  fewer-factors qs p (Read q t) o (inr k) = (gathered (λ ps. q ∷ ps) k.1, inr (k.0, k.1, k.2, refl), k.3 ∙ longer qs p k.1 q)
  fewer-factors qs p (Bad e at) o k = (Bad e at, refl, k)

  fewer-summands : (qs : List Term) (p : Term) (u : Got Term) (o : Got (List Term)) → MoreSummands depth inside (qs ++ p ∷ []) u o
      → (m : Got (List Term)) × MoreSummands depth inside [] u m × (o ≡ gathered (λ ps. qs ++ p ∷ ps) m)
  fewer-summands qs p (Read q t) o (inl k) = (Read (q ∷ []) t, inl (k.0, refl), k.1 ∙ ap (λ l. Read l t) (append_assoc qs (p ∷ []) (q ∷ [])))
  fewer-summands qs p (Read q t) o (inr k) = (gathered (λ ps. q ∷ ps) k.1, inr (k.0, k.1, k.2, refl), k.3 ∙ longer qs p k.1 q)
  fewer-summands qs p (Bad e at) o k = (Bad e at, refl, k)

  module _ (ss qs : List Term) (p : Term) (t : Spot) where
    -- the operand is a factor, and another follows
    makes-factor : (u o : Got Term) → sign t.text ≡ Semicolon → IsUnary depth inside (step t) u → MakesPolicy depth inside ss (qs ++ p ∷ []) u o → MakesPolicy depth inside ss qs (Read p t) o
    makes-factor u o e h k =
        let m = fewer-factors qs p u k.0 k.1 in
        (k.0, inr (e, m.0, factors-of (step t) u m.0 h m.1, m.2), k.2, k.3, k.4)

    -- the operand ends a summand, and another follows
    makes-summand : (u o : Got Term) → sign t.text ≡ Plus → IsUnary depth inside (step t) u
        → MakesPolicy depth inside (ss ++ seq_of (qs ++ p ∷ []) ∷ []) [] u o → MakesPolicy depth inside ss qs (Read p t) o
    makes-summand u o e h k =
        let m = fewer-summands ss (seq_of (qs ++ p ∷ [])) (gathered seq_of k.0) k.2 k.3 in
        let f = sequence depth inside (step t) k.0 (factors-of (step t) u k.0 h k.1) in
        let ne : sign t.text ≢ Semicolon = λ g. let no = sym e ∙ g in cc in
        (Read (qs ++ p ∷ []) t, inl (ne, refl), k.2, inr (e, m.0, summands-of (step t) (gathered seq_of k.0) m.0 f m.1, m.2), k.4)

    -- the operand ends the policy
    makes-end : sign t.text ≢ Semicolon → sign t.text ≢ Plus → MakesPolicy depth inside ss qs (Read p t) (Read (sum_of (ss ++ seq_of (qs ++ p ∷ []) ∷ [])) t)
    makes-end ne nf = (Read (qs ++ p ∷ []) t, inl (ne, refl), Read (ss ++ seq_of (qs ++ p ∷ []) ∷ []) t, inl (nf, refl), refl)

-- a fault is that of the whole text
pub leads-bad : (fs : List Frame) (ss qs : List Term) (f : TextFault) (at : List ℕ) → Leads fs ss qs (Bad f at) (Bad f at)
leads-bad [] ss qs f at = (Bad f at, (Bad f at, refl, Bad f at, refl, refl), refl)
leads-bad (Negated ∷ fs) ss qs f at = leads-bad fs ss qs f at
leads-bad (Bracketed ss' qs' ∷ fs) ss qs f at = (Bad f at, (Bad f at, refl, Bad f at, refl, refl), leads-bad fs ss' qs' f at)

-- no `not` waits for the operand that was read
abbrev pub IsChain : List Frame → Type 0
IsChain [] = Unit {0}
IsChain (Negated ∷ fs) = ⊥
IsChain (Bracketed ss qs ∷ fs) = Unit {0}

ended-not : (p : Term) (s : Spot) (g : Sign) → g ≢ End → ended_by p s g ≡ strays 0 s
ended-not p s End ne = absurd (ne refl)
ended-not p s g ne = refl

closed-not : (depth : ℕ) (p : Term) (s : Spot) (g : Sign) → g ≢ Close → closed_by depth p s g ≡ strays depth s
closed-not depth p s Close ne = absurd (ne refl)
closed-not depth p s g ne = refl

module _ (ss qs : List Term) (p : Term) (t : Spot) (o : Got Term) where
  pub at-semicolon : (fs : List Frame) → IsChain fs → sign t.text ≡ Semicolon → ComesIn Operand fs ss (qs ++ p ∷ []) (step t) o → Leads fs ss qs (Read p t) o
  at-semicolon [] c e h = (h.2.0, makes-factor 0 false ss qs p t h.0 h.2.0 e h.1 h.2.1, h.2.2)
  at-semicolon (Negated ∷ fs) c e h = absurd c
  at-semicolon (Bracketed ss' qs' ∷ fs) c e h = (h.2.0, makes-factor (depth_of fs + 1) (is_inside fs) ss qs p t h.0 h.2.0 e h.1 h.2.1, h.2.2)

  pub at-plus : (fs : List Frame) → IsChain fs → sign t.text ≡ Plus → ComesIn Operand fs (ss ++ seq_of (qs ++ p ∷ []) ∷ []) [] (step t) o → Leads fs ss qs (Read p t) o
  at-plus [] c e h = (h.2.0, makes-summand 0 false ss qs p t h.0 h.2.0 e h.1 h.2.1, h.2.2)
  at-plus (Negated ∷ fs) c e h = absurd c
  at-plus (Bracketed ss' qs' ∷ fs) c e h = (h.2.0, makes-summand (depth_of fs + 1) (is_inside fs) ss qs p t h.0 h.2.0 e h.1 h.2.1, h.2.2)

  pub at-close : (ss' qs' : List Term) (fs : List Frame) → sign t.text ≡ Close
      → ComesIn (Behind (sum_of (ss ++ seq_of (qs ++ p ∷ []) ∷ [])) true) fs ss' qs' (step t) o → Leads (Bracketed ss' qs' ∷ fs) ss qs (Read p t) o
  at-close ss' qs' fs e h =
      let w = sum_of (ss ++ seq_of (qs ++ p ∷ []) ∷ []) in
      let ne : sign t.text ≢ Semicolon = λ g. let no = sym e ∙ g in cc in
      let nf : sign t.text ≢ Plus = λ g. let no = sym e ∙ g in cc in (
        Read w t,
        makes-end (depth_of fs + 1) (is_inside fs) ss qs p t ne nf,
        subst (λ g. Leads fs ss' qs' (starred (is_inside fs) (closed_by (depth_of fs + 1) w t g)) o) (sym e) h,
      )

module _ (ss qs : List Term) (p : Term) (t : Spot) where
  pub at-stray : (fs : List Frame) → IsChain fs → sign t.text ≢ Semicolon → sign t.text ≢ Plus → ((fs ≡ []) → sign t.text ≢ End) → ((fs ≢ []) → sign t.text ≢ Close)
      → Leads fs ss qs (Read p t) (Bad (stray (depth_of fs) (sign t.text)) t.text)
  at-stray [] c ne nf end close =
      let w = sum_of (ss ++ seq_of (qs ++ p ∷ []) ∷ []) in
      (Read w t, makes-end 0 false ss qs p t ne nf, sym (ended-not w t (sign t.text) (end refl)))
  at-stray (Negated ∷ fs) c ne nf end close = absurd c
  at-stray (Bracketed ss' qs' ∷ fs) c ne nf end close =
      let w = sum_of (ss ++ seq_of (qs ++ p ∷ []) ∷ []) in
      let d = depth_of fs + 1 in
      let some : (Bracketed ss' qs' ∷ fs) ≢ [] = λ e. cc in (
        Read w t,
        makes-end d (is_inside fs) ss qs p t ne nf,
        subst (λ x. Leads fs ss' qs' (starred (is_inside fs) x) (Bad (stray d (sign t.text)) t.text)) (sym (closed-not d w t (sign t.text) (close some)))
            (leads-bad fs ss' qs' (stray d (sign t.text)) t.text),
      )

  -- the whole text was read
  pub at-end : sign t.text ≡ End → Leads [] ss qs (Read p t) (Read (sum_of (ss ++ seq_of (qs ++ p ∷ []) ∷ [])) t)
  at-end e =
      let w = sum_of (ss ++ seq_of (qs ++ p ∷ []) ∷ []) in
      let ne : sign t.text ≢ Semicolon = λ g. let no = sym e ∙ g in cc in
      let nf : sign t.text ≢ Plus = λ g. let no = sym e ∙ g in cc in
      (Read w t, makes-end 0 false ss qs p t ne nf, sym (ap (ended_by w t) e))

module _ (fs : List Frame) (ss qs : List Term) (s : Spot) (o : Got Term) where
  pub at-open : Opens to_sign.Open (depth_of fs) s → ComesIn Operand (Bracketed ss qs ∷ fs) [] [] (step s) o → ComesIn Operand fs ss qs s o
  at-open opens h =
      let d = depth_of fs in
      let i = is_inside fs in
      let w = h.2.0 in
      let not_not : ¬ (Opens to_sign.Not d s) = λ k. let no = sym k.0 ∙ opens.0 in cc in
      (starred i (closed (d + 1) w), post d i s (closed (d + 1) w) not_not (bracket d i s w opens (policy-of (d + 1) i (step s) h.0 w h.1 h.2.1)), h.2.2)

  pub at-not : Opens to_sign.Not (depth_of fs) s → ComesIn Operand (Negated ∷ fs) ss qs (step s) o → ComesIn Operand fs ss qs s o
  at-not opens h = (gathered negated h.0, negation (depth_of fs) (is_inside fs) s h.0 opens h.1, h.2)

  -- an atom that is no bracket, by its first sign
  pub at-leaf : (u : Got Term) → ¬ (Opens to_sign.Not (depth_of fs) s) → ¬ (Opens to_sign.Open (depth_of fs) s) → IsLeaf (depth_of fs) (is_inside fs) s (sign s.text) u
      → Leads fs ss qs (starred (is_inside fs) u) o → ComesIn Operand fs ss qs s o
  at-leaf u not_not not_open h k = (starred (is_inside fs) u, post (depth_of fs) (is_inside fs) s u not_not (leaf (depth_of fs) (is_inside fs) s u not_open h), k)

  pub at-star : (p : Term) → is_inside fs ≡ false → sign s.text ≡ to_sign.Star → ComesIn (Behind (to.Star p) false) fs ss qs (step s) o → ComesIn (Behind p true) fs ss qs s o
  at-star p i e h = subst (λ x. Leads fs ss qs x o) (sym (ap (λ g. starred_by (is_inside fs) p s g) e ∙ ap (λ b. starred_by b p s to_sign.Star) i)) h

  pub no-star : (p : Term) → sign s.text ≢ to_sign.Star → Leads fs ss qs (Read p s) o → ComesIn (Behind p true) fs ss qs s o
  no-star p ne h = subst (λ x. Leads fs ss qs x o) (sym (starred-not (is_inside fs) p s (sign s.text) ne)) h
