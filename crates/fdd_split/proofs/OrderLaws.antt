-- Divided diagrams are ordered, and give no packet twice.
use Rattle.std.proofs.Common.{◌≡◌, ◌≢◌, ℕ, ◌+◌, ◌*◌, ◌<◌, ◌≤◌, inl, inr, refl, ap, subst, arith, List}
use Rattle.nk_values.specs.declared.lit.Lit.{Lit}
use Rattle.nk_values.specs.Lits.{lit_field}
use Rattle.nk_values.specs.Ranges.{place}
use Rattle.nk_values.specs.Ranks.{step, rank}
use Rattle.nk_values.proofs.LitLaws.{lit_small, same_rank}
use Rattle.fdd_nodes.specs.Trees.{Tree, Leaf, Node, IsOrderedFrom, Tests, Assigns}
use Rattle.fdd_store.specs.Canonical.{IsCanonical, IsBeyond, IsLater, AreProper}
use Rattle.fdd_store.specs.Results.{Cuts}
use Rattle.fdd_store.proofs.MadeLaws.{tests_from, ordered_by, places_past, ranks_past, made_then, made_else, then_beyond, else_later}
use Rattle.fdd_split.specs.declared.bars.Bar.{Bar}
use Rattle.fdd_split.specs.declared.bars.Bar.TheVariants.{OfField, Literal}
use Rattle.fdd_split.specs.Bars.{SomeBars, Narrows}
use Rattle.fdd_split.specs.Threats.{Threat, ComesFirst}
use Rattle.fdd_split.specs.Divides.{Divides, Branches, Doubles}
use Rattle.fdd_split.proofs.AnswerLaws.{like_of, threat_assigned}
use Rattle.fdd_split.proofs.ThreatLaws.{up_yes, up_no, threat_less, threat_free}
use Rattle.fdd_split.proofs.NarrowLaws.{narrowed}

-- the diagram tests nothing that is barred
abbrev pub IsUnbarred : List Bar → Tree → Type 0
IsUnbarred k a = (m : Lit) → Tests a m → ¬ SomeBars k m

-- no threat comes before n
abbrev pub ThreatsFrom : ℕ → List Bar → Tree → Type 0
ThreatsFrom n k a = (x : Lit) → Threat k a x → n ≤ rank x

pub next_field : (l x : Lit) → rank l ≤ rank x → place (lit_field x) ≢ place (lit_field l) → step * (place (lit_field l) + 1) ≤ rank x
next_field l x h n = omega (arith, h, n, lit_small l, lit_small x)

pub next_rank : (l x : Lit) → rank l ≤ rank x → l ≢ x → rank l + 1 ≤ rank x
next_rank l x h n = let d : rank l ≢ rank x = λ e. n (same_rank l x e) in omega (arith, h, d)

pub fields_apart : (l n : Lit) → place (lit_field l) < place (lit_field n) → lit_field l ≢ lit_field n
fields_apart l n h e = let k : place (lit_field l) ≡ place (lit_field n) = ap place e in omega (arith, h, k)

-- what is needed of a diagram that is divided
pub record IsReady (k : List Bar) (a : Tree) (n : ℕ) : Type 0 where
  pub made : IsCanonical a
  pub unbarred : IsUnbarred k a
  pub ordered : IsOrderedFrom n a
  pub threats : ThreatsFrom n k a

-- branches of the diagram itself
module _ (k : List Bar) (l : Lit) (y n : Tree) (h : IsCanonical (Node l y n)) (u : IsUnbarred k (Node l y n)) (first : ComesFirst k (Node l y n) l) where
  module _ (j : List Bar) (w : Narrows k j (OfField (place (lit_field l))) y) where
    pub unbarred_then : IsUnbarred j y
    unbarred_then m t b = elim (w.only m b) [
      | inl z ↦ u m (inr (inl t)) z
      | inr z ↦ let o = (then_beyond l y n h).past m t in omega (arith, o, z)
    ]

    pub threats_then : ThreatsFrom (step * (place (lit_field l) + 1)) j y
    threats_then x t =
        let past : (m : Lit) → Tests y m → lit_field l ≢ lit_field m = λ m z. fields_apart l m ((then_beyond l y n h).past m z) in
        let r : rank l ≤ rank x = first x (up_yes k j l y n x (made_then l y n h).proper past (u l (inl refl)) w.kept w.has t) in
        next_field l x r (λ e. threat_free j y x (made_then l y n h).proper t (w.has x (threat_assigned j y x t) e))

  module _ (j : List Bar) (w : Narrows k j (Literal l) n) where
    pub unbarred_else : IsUnbarred j n
    unbarred_else m t b = elim (w.only m b) [
      | inl z ↦ u m (inr (inr t)) z
      | inr z ↦ let o = else_later l y n h m t in let e : rank l ≡ rank m = ap rank z in omega (arith, o, e)
    ]

    pub threats_else : ThreatsFrom (rank l + 1) j n
    threats_else x t =
        let r : rank l ≤ rank x = first x (up_no k j l y n x (made_else l y n h).proper (else_later l y n h) w.kept w.has t) in
        next_rank l x r (λ e. threat_free j n x (made_else l y n h).proper t (w.has x (threat_assigned j n x t) e))

-- the parts where a first threat is tested
module _ (k : List Bar) (l : Lit) (a : Tree) (h : IsCanonical a) (u : IsUnbarred k a) (d : Threat k a l) (first : ComesFirst k a l) (before : IsLater l a) where
  free_here : ¬ SomeBars k l
  free_here = threat_free k a l h.proper d

  pub ordered_else_of : (n : ℕ) → IsOrderedFrom n a → IsOrderedFrom (rank l + 1) a
  ordered_else_of n o = ordered_by a n (rank l + 1) o (λ m t. let z = before m t in omega (arith, z))

  module _ (j : List Bar) (w : Narrows k j (Literal l) a) where
    pub unbarred_else_of : IsUnbarred j a
    unbarred_else_of m t b = elim (w.only m b) [
      | inl z ↦ u m t z
      | inr z ↦ let o = before m t in let e : rank l ≡ rank m = ap rank z in omega (arith, o, e)
    ]

    pub threats_else_of : ThreatsFrom (rank l + 1) j a
    threats_else_of x t =
        next_rank l x (first x (threat_less k j a x w.kept t))
        (λ e. threat_free j a x h.proper t (w.has x (threat_assigned j a x t) e))

  pub ordered_then_of : (v : Tree) → IsCanonical v → Cuts l a v → IsOrderedFrom (step * (place (lit_field l) + 1)) v
  ordered_then_of v hv c = ordered_by v 0 _ hv.ordered (λ m t. ranks_past l m (c.beyond.past m t))

  module _ (v : Tree) (hv : IsCanonical v) (c : Cuts l a v) (i : List Bar) (w : Narrows k i (OfField (place (lit_field l))) v) where
    pub unbarred_then_of : IsUnbarred i v
    unbarred_then_of m t b = elim (w.only m b) [
      | inl z ↦ u m (c.tests m t) z
      | inr z ↦ let o = c.beyond.past m t in omega (arith, o, z)
    ]

    pub threats_then_of : ThreatsFrom (step * (place (lit_field l) + 1)) i v
    threats_then_of x t =
        let r : rank l ≤ rank x = elim (narrowed k i l a v x c hv h.proper free_here w t) [
          | inl z ↦ first x z
          | inr z ↦ let o = before x z in omega (arith, o)
        ] in
        next_field l x r (λ e. threat_free i v x hv.proper t (w.has x (threat_assigned i v x t) e))

module _ (k : List Bar) (a : Tree) (n : ℕ) (r : IsReady k a n) (l : Lit) (t e : Tree) where
  module _ (b : Branches k a l (λ j x. Divides j x t) (λ j x. Divides j x e)) where
    pub made_here : IsCanonical (Node l b.yes b.no)
    made_here = subst (λ (x : Tree). IsCanonical x) b.is r.made

    unbarred_here : IsUnbarred k (Node l b.yes b.no)
    unbarred_here = subst (λ (x : Tree). IsUnbarred k x) b.is r.unbarred

    first_here : ComesFirst k (Node l b.yes b.no) l
    first_here = subst (λ (x : Tree). ComesFirst k x l) b.is b.first

    pub ordered_here : IsOrderedFrom n (Node l b.yes b.no)
    ordered_here = subst (λ (x : Tree). IsOrderedFrom n x) b.is r.ordered

    pub ready_then : IsReady b.yes_bars b.yes (step * (place (lit_field l) + 1))
    ready_then = record {
      made = made_then l b.yes b.no made_here;
      unbarred = unbarred_then k l b.yes b.no made_here unbarred_here first_here b.yes_bars b.yes_narrows;
      ordered = ordered_here.1;
      threats = threats_then k l b.yes b.no made_here unbarred_here first_here b.yes_bars b.yes_narrows;
    }

    pub ready_else : IsReady b.no_bars b.no (rank l + 1)
    ready_else = record {
      made = made_else l b.yes b.no made_here;
      unbarred = unbarred_else k l b.yes b.no made_here unbarred_here first_here b.no_bars b.no_narrows;
      ordered = ordered_here.2;
      threats = threats_else k l b.yes b.no made_here unbarred_here first_here b.no_bars b.no_narrows;
    }

  module _ (d : Doubles k a l (λ j x. Divides j x t) (λ j x. Divides j x e)) where
    pub ready_part : IsReady d.yes_bars d.part (step * (place (lit_field l) + 1))
    ready_part = record {
      made = d.made;
      unbarred = unbarred_then_of k l a r.made r.unbarred d.threat d.first d.before d.part d.made d.cuts d.yes_bars d.yes_narrows;
      ordered = ordered_then_of k l a r.made r.unbarred d.threat d.first d.before d.part d.made d.cuts;
      threats = threats_then_of k l a r.made r.unbarred d.threat d.first d.before d.part d.made d.cuts d.yes_bars d.yes_narrows;
    }

    pub ready_rest : IsReady d.no_bars a (rank l + 1)
    ready_rest = record {
      made = r.made;
      unbarred = unbarred_else_of k l a r.made r.unbarred d.threat d.first d.before d.no_bars d.no_narrows;
      ordered = ordered_else_of k l a r.made r.unbarred d.threat d.first d.before n r.ordered;
      threats = threats_else_of k l a r.made r.unbarred d.threat d.first d.before d.no_bars d.no_narrows;
    }

pub ordered_of : (r : Tree) (k : List Bar) (a : Tree) (n : ℕ) → IsReady k a n → Divides k a r → IsOrderedFrom n r
ordered_of (Leaf cs) k a n w d = tt
ordered_of (Node l t e) k a n w (inl d) = subst (λ (x : Tree). IsOrderedFrom n x) d.1 w.ordered
ordered_of (Node l t e) k a n w (inr (inl b)) = (
  (ordered_here k a n w l t e b).0,
  ordered_of t b.yes_bars b.yes _ (ready_then k a n w l t e b) b.then_is,
  ordered_of e b.no_bars b.no _ (ready_else k a n w l t e b) b.else_is,
)
ordered_of (Node l t e) k a n w (inr (inr d)) = (
  w.threats l d.threat,
  ordered_of t _ d.part _ (ready_part k a n w l t e d) d.then_is,
  ordered_of e _ a _ (ready_rest k a n w l t e d) d.else_is,
)

-- what a divided branch tests comes after the test, and it does not assign the literal
pub then_divided : (l : Lit) (t v : Tree) (j : List Bar) → IsOrderedFrom (step * (place (lit_field l) + 1)) t → (¬ Assigns v l) → Divides j v t → IsBeyond l t
then_divided l t v j o c d = record {
  past = λ m h. places_past l m (tests_from t _ m o h);
  clean = λ h. c ((like_of t j v d).assigns l h);
}

pub proper_of : (r : Tree) (k : List Bar) (a : Tree) → AreProper a → Divides k a r → AreProper r
proper_of (Leaf cs) k a h d = subst (λ (x : Tree). AreProper x) d.1 h
proper_of (Node l t e) k a h (inl d) = subst (λ (x : Tree). AreProper x) d.1 h
proper_of (Node l t e) k a h (inr (inl b)) =
    let h' : AreProper (Node l b.yes b.no) = subst (λ (x : Tree). AreProper x) b.is h in
    (proper_of t b.yes_bars b.yes h'.0 b.then_is, proper_of e b.no_bars b.no h'.1 b.else_is)
proper_of (Node l t e) k a h (inr (inr d)) = (proper_of t _ d.part d.made.proper d.then_is, proper_of e _ a h d.else_is)
