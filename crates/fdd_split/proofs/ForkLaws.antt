-- First threats of tests.
use Rattle.std.proofs.Common.{◌≡◌, ◌≢◌, inl, inr, refl, ap, sym, subst, arith, List, Option}
use Rattle.nk_values.specs.declared.lit.Lit.{Lit}
use Rattle.nk_values.specs.Lits.{lit_field}
use Rattle.nk_values.specs.Ranges.{place}
use Rattle.nk_values.specs.Ranks.{rank}
use Rattle.fdd_nodes.specs.Trees.{Tree, Leaf, Node, Tests}
use Rattle.fdd_store.specs.Canonical.{IsCanonical}
use Rattle.fdd_store.proofs.MadeLaws.{made_then, made_else, then_beyond, else_later}
use Rattle.fdd_split.specs.declared.bars.Bar.{Bar}
use Rattle.fdd_split.specs.declared.bars.Bar.TheVariants.{OfField, Literal}
use Rattle.fdd_split.specs.Bars.{Narrows}
use Rattle.fdd_split.specs.Pairs.{IsEarlier, IsFirstOf}
use Rattle.fdd_split.specs.Threats.{Threat, TestsNoBarred}
use Rattle.fdd_split.proofs.AnswerLaws.{holds_or}
use Rattle.fdd_split.proofs.FirstLaws.{first_joined}
use Rattle.fdd_split.proofs.OrderLaws.{fields_apart}
use Rattle.fdd_split.proofs.ThreatLaws.{down_yes, down_no, up_yes, up_no}

-- the first threat of a leaf
pub leaf_first : (k : List Bar) (a : Tree) (cs ds : List (List Lit)) (o : Option Lit) → a ≡ Leaf cs → ds ≡ cs → IsFirstOf (Threat k (Leaf ds)) o → IsFirstOf (Threat k a) o
leaf_first k a cs ds o e s h =
    subst (λ (z : Tree). IsFirstOf (Threat k z) o) (sym e) (subst (λ (z : List (List Lit)). IsFirstOf (Threat k (Leaf z)) o) s h)

module _ (k i : List Bar) (l : Lit) (a t e : Tree) (is : a ≡ Node l t e) (made : IsCanonical a) (unbarred : TestsNoBarred k a) (y : Narrows k i (OfField (place (lit_field l))) t) where
  h : IsCanonical (Node l t e)
  h = subst (λ (z : Tree). IsCanonical z) is made

  u : TestsNoBarred k (Node l t e)
  u = subst (λ (z : Tree). TestsNoBarred k z) is unbarred

  past : (m : Lit) → Tests t m → lit_field l ≢ lit_field m
  past m z = fields_apart l m ((then_beyond l t e h).past m z)

  pub then_unbarred : TestsNoBarred i t
  then_unbarred m z b = elim (y.only m b) [
    | inl v ↦ u m (inr (inl z)) v
    | inr v ↦ let o = (then_beyond l t e h).past m z in omega (arith, o, v)
  ]

  module _ (j : List Bar) (n : Narrows k j (Literal l) e) where
    pub else_unbarred : TestsNoBarred j e
    else_unbarred m z b = elim (n.only m b) [
      | inl v ↦ u m (inr (inr z)) v
      | inr v ↦ let o = else_later l t e h m z in let s : rank l ≡ rank m = ap rank v in omega (arith, o, s)
    ]

    pub fork_threats : (x y' r : Option Lit) → IsFirstOf (Threat i t) x → IsFirstOf (Threat j e) y' → IsEarlier x y' r → IsFirstOf (Threat k a) r
    fork_threats x y' r hx hy w = subst (λ (z : Tree). IsFirstOf (Threat k z) r) (sym is)
        (first_joined (Threat i t) (Threat j e) (Threat k (Node l t e)) x y' r
        (λ v z. up_yes k i l t e v (made_then l t e h).proper past (u l (inl refl)) y.kept y.has z)
        (λ v z. up_no k j l t e v (made_else l t e h).proper (else_later l t e h) n.kept n.has z)
        (λ v z. elim (holds_or z.packet l) [
          | inl s ↦ inl (down_yes k i l t e v (made_then l t e h).proper past (then_beyond l t e h).clean y.only z s)
          | inr s ↦ inr (down_no k j l t e v n.only z s)
        ])
        hx hy w)
