-- Steps of the division, at the places of a store.
use Rattle.std.proofs.Common.{◌≡◌, ℕ, ◌<◌, ◌≤◌, inl, inr, sym, subst, List, Option, Some}
use Rattle.nk_values.specs.declared.lit.Lit.{Lit}
use Rattle.nk_values.specs.Lits.{lit_field}
use Rattle.nk_values.specs.Ranges.{place}
use Rattle.nk_values.specs.Ranks.{rank}
use Rattle.fdd_nodes.specs.Trees.{Tree, Node, Assigns}
use Rattle.fdd_store.specs.Looks.{Forked}
use Rattle.fdd_store.specs.Canonical.{IsCanonical, IsLater}
use Rattle.fdd_store.specs.Results.{Cuts}
use Rattle.fdd_store.specs.Stores.{Kept, Has, Gives, Grows, tree_at}
use Rattle.fdd_store.proofs.ForkLaws.{fall_then, fall_else}
use Rattle.fdd_store.proofs.StoreLaws.{has_grown, tree_grown}
use Rattle.fdd_split.specs.declared.bars.Bar.{Bar}
use Rattle.fdd_split.specs.declared.bars.Bar.TheVariants.{OfField, Literal}
use Rattle.fdd_split.specs.Bars.{Narrows}
use Rattle.fdd_split.specs.Divides.{Divides}
use Rattle.fdd_split.specs.Pairs.{IsFirstOf}
use Rattle.fdd_split.specs.Threats.{Threat, TestsNoBarred, ComesFirst}
use Rattle.fdd_split.proofs.AnswerLaws.{threat_assigned}
use Rattle.fdd_split.proofs.DivideLaws.{divides_branches, divides_doubles}
use Rattle.fdd_split.proofs.EndLaws.{weight, weight_of_branch, weight_of_part, weight_of_rest}
use Rattle.fdd_split.proofs.ForkLaws.{then_unbarred, else_unbarred}
use Rattle.fdd_split.proofs.OrderLaws.{unbarred_then_of, unbarred_else_of}
use Rattle.fdd_split.proofs.ThreatLaws.{threat_free}

-- what the division of a part needs
abbrev pub IsStep : List Bar → Kept → ℕ → ℕ → Type 0
IsStep j s u w = (weight j (tree_at s u) < w) × (Has s u × TestsNoBarred j (tree_at s u))

pub first_some : (T : Lit → Type 0) (o : Option Lit) (l : Lit) → o ≡ Some l → IsFirstOf T o → T l × ((x : Lit) → T x → rank l ≤ rank x)
first_some T o l e h = subst (λ (z : Option Lit). IsFirstOf T z) e h

module _ (k : List Bar) (old : Kept) (a : ℕ) (m : Lit) (t e : ℕ) (f : Forked old m t e (tree_at old a)) (made : IsCanonical (tree_at old a)) (u : TestsNoBarred k (tree_at old a)) (j : List Bar) (y : Narrows k j (OfField (place (lit_field m))) (tree_at old t)) where
  pub then_step : IsStep j old t (weight k (tree_at old a))
  then_step = (
    weight_of_branch k j (tree_at old a) (tree_at old t)
        (λ x s. subst (λ (z : Tree). Assigns z x) (sym f.is) (inl s))
        y.kept
        (fall_then _ m _ _ _ _ f made),
    (f.has_then, then_unbarred k j m (tree_at old a) (tree_at old t) (tree_at old e) f.is made u y),
  )

  module _ (i : List Bar) (n : Narrows k i (Literal m) (tree_at old e)) (new : Kept) (g : Grows old new) where
    there : tree_at new e ≡ tree_at old e
    there = tree_grown old new e g f.has_else

    pub else_step : IsStep i new e (weight k (tree_at old a))
    else_step = (
      subst (λ (z : Tree). weight i z < weight k (tree_at old a)) (sym there)
          (weight_of_branch k i (tree_at old a) (tree_at old e)
          (λ x s. subst (λ (z : Tree). Assigns z x) (sym f.is) (inr s))
          n.kept
          (fall_else _ m _ _ _ _ f made)),
      (has_grown old new e g f.has_else, subst (λ (z : Tree). TestsNoBarred i z) (sym there) (else_unbarred k j m (tree_at old a) (tree_at old t) (tree_at old e) f.is made u y i n)),
    )

    pub branches_done : ComesFirst k (tree_at old a) m → (r s : Tree) → Divides j (tree_at old t) r → Divides i (tree_at new e) s → Divides k (tree_at old a) (Node m r s)
    branches_done first r s dt de =
        divides_branches k j i (tree_at old a) (tree_at old t) (tree_at old e) r s m f.is first y n dt (subst (λ (z : Tree). Divides i z s) there de)

module _ (k : List Bar) (old : Kept) (a : ℕ) (l : Lit) (has : Has old a) (made : IsCanonical (tree_at old a)) (u : TestsNoBarred k (tree_at old a)) (h : Threat k (tree_at old a) l) (first : ComesFirst k (tree_at old a) l) (before : IsLater l (tree_at old a)) where
  module _ (j : List Bar) (n : Narrows k j (Literal l) (tree_at old a)) where
    module _ (new : Kept) (g : Grows old new) where
      same : tree_at new a ≡ tree_at old a
      same = tree_grown old new a g has

      pub rest_step : IsStep j new a (weight k (tree_at old a))
      rest_step = (
        subst (λ (z : Tree). weight j z < weight k (tree_at old a)) (sym same)
            (weight_of_rest k j l (tree_at old a) n (threat_assigned k (tree_at old a) l h) (threat_free k (tree_at old a) l made.proper h)),
        (
          has_grown old new a g has,
          subst (λ (z : Tree). TestsNoBarred j z) (sym same) (unbarred_else_of k l (tree_at old a) made u h first before j n),
        ),
      )

    module _ (i : List Bar) (mid : Kept) (v : ℕ) (w : Gives mid v (Cuts l (tree_at old a))) (y : Narrows k i (OfField (place (lit_field l))) (tree_at mid v)) where
      pub part_step : IsStep i mid v (weight k (tree_at old a))
      part_step = (
        weight_of_part k i l (tree_at old a) (tree_at mid v) made w.is y (threat_assigned k (tree_at old a) l h) (threat_free k (tree_at old a) l made.proper h),
        (w.has, unbarred_then_of k l (tree_at old a) made u h first before (tree_at mid v) w.made w.is i y),
      )

      pub doubles_done : (new : Kept) → Grows old new → (r s : Tree) → Divides i (tree_at mid v) r → Divides j (tree_at new a) s → Divides k (tree_at old a) (Node l r s)
      doubles_done new g r s dt de =
          divides_doubles k i j (tree_at old a) (tree_at mid v) r s l h first before w.made w.is y n dt (subst (λ (z : Tree). Divides j z s) (same new g) de)
