-- Rules of the grammar, as the text that is printed goes by them.
use Rattle.std.proofs.Common.{◌≡◌, ◌≢◌, ℕ, ◌+◌, Bool, true, false, refl, ap, subst}
use Rattle.nk_syntax.specs.Terms.{Term, Star}
use Rattle.netkat_parser.specs.declared.sign.Sign.{Sign}
use Rattle.netkat_parser.specs.declared.sign.Sign.TheVariants as to_sign
use Rattle.netkat_parser.specs.declared.sign.Sign.TheVariants.{Close}
use Rattle.netkat_parser.specs.Signs.{sign}
use Rattle.netkat_parser.specs.Grammar.{Spot, Read, step, closed_by, starred_by, Opens, IsPolicy, IsUnary, IsAtom, post, bracket}

pub starred-not : (inside : Bool) (p : Term) (s : Spot) (t : Sign) → t ≢ to_sign.Star → starred_by inside p s t ≡ Read p s
starred-not false p s to_sign.Star ne = absurd (ne refl)
starred-not true p s to_sign.Star ne = absurd (ne refl)
starred-not false p s t ne = refl
starred-not true p s t ne = refl

module _ (depth : ℕ) (inside : Bool) (s : Spot) where
  pub closing : (p : Term) (t : Spot) → Opens to_sign.Open depth s → IsPolicy (depth + 1) inside (step s) (Read p t) → sign t.text ≡ Close → IsAtom depth inside s (Read p (step t))
  closing p t opens h e = subst (IsAtom depth inside s) (ap (closed_by (depth + 1) p t) e) (bracket depth inside s (Read p t) opens h)

  pub star : (p : Term) (t : Spot) → ¬ (Opens to_sign.Not depth s) → IsAtom depth inside s (Read p t) → sign t.text ≡ to_sign.Star → inside ≡ false → IsUnary depth inside s (Read (Star p) (step t))
  star p t opens h e outside = subst (IsUnary depth inside s) (rw (e, outside) refl) (post depth inside s (Read p t) opens h)

  pub no-star : (p : Term) (t : Spot) → ¬ (Opens to_sign.Not depth s) → IsAtom depth inside s (Read p t) → sign t.text ≢ to_sign.Star → IsUnary depth inside s (Read p t)
  no-star p t opens h ne = subst (IsUnary depth inside s) (starred-not inside p t (sign t.text) ne) (post depth inside s (Read p t) opens h)
