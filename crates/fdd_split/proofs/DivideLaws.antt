-- Diagrams that are divided step by step.
use Rattle.std.proofs.Common.{◌≡◌, ◌<◌, ◌≤◌, inl, inr, sym, subst, arith, List}
use Rattle.nk_values.specs.declared.lit.Lit.{Lit}
use Rattle.nk_values.specs.Lits.{lit_field}
use Rattle.nk_values.specs.Ranges.{place}
use Rattle.nk_values.specs.Ranks.{rank}
use Rattle.fdd_nodes.specs.Trees.{Tree, Leaf, Node, Tests}
use Rattle.fdd_store.specs.Canonical.{IsCanonical, IsLater}
use Rattle.fdd_store.specs.Results.{Cuts}
use Rattle.fdd_store.proofs.MadeLaws.{tests_from}
use Rattle.fdd_split.specs.declared.bars.Bar.{Bar}
use Rattle.fdd_split.specs.declared.bars.Bar.TheVariants.{OfField, Literal}
use Rattle.fdd_split.specs.Bars.{Narrows}
use Rattle.fdd_split.specs.Divides.{Divides}
use Rattle.fdd_split.specs.Threats.{Threat, HasNoThreat, ComesFirst}

pub divides_none : (k : List Bar) (a r : Tree) → HasNoThreat k a → r ≡ a → Divides k a r
divides_none k a (Leaf cs) h e = (h, sym e)
divides_none k a (Node l t e') h e = inl (h, sym e)

pub divides_branches : (k i j : List Bar) (a y n t e : Tree) (l : Lit) → a ≡ Node l y n → ComesFirst k a l → Narrows k i (OfField (place (lit_field l))) y → Narrows k j (Literal l) n → Divides i y t → Divides j n e → Divides k a (Node l t e)
divides_branches k i j a y n t e l s f hy hn dt de = inr (inl (record {
  yes = y;
  no = n;
  is = s;
  first = f;
  yes_bars = i;
  no_bars = j;
  yes_narrows = hy;
  no_narrows = hn;
  then_is = dt;
  else_is = de;
}))

pub divides_doubles : (k i j : List Bar) (a u t e : Tree) (l : Lit) → Threat k a l → ComesFirst k a l → IsLater l a → IsCanonical u → Cuts l a u → Narrows k i (OfField (place (lit_field l))) u → Narrows k j (Literal l) a → Divides i u t → Divides j a e → Divides k a (Node l t e)
divides_doubles k i j a u t e l h f b m c hy hn dt de = inr (inr (record {
  threat = h;
  first = f;
  before = b;
  part = u;
  made = m;
  cuts = c;
  yes_bars = i;
  no_bars = j;
  yes_narrows = hy;
  no_narrows = hn;
  then_is = dt;
  else_is = de;
}))

-- a literal that precedes the first test precedes all
pub later_root : (l m : Lit) (a t e : Tree) → IsCanonical a → a ≡ Node m t e → rank l < rank m → IsLater l a
later_root l m a t e h s r n w =
    let h' : IsCanonical (Node m t e) = subst (λ (z : Tree). IsCanonical z) s h in
    let o = tests_from (Node m t e) (rank m) n (omega arith, h'.ordered.1, h'.ordered.2) (subst (λ (z : Tree). Tests z n) s w) in
    omega (arith, o, r)

pub first_before : (k : List Bar) (a : Tree) (l m : Lit) → ComesFirst k a l → rank m ≤ rank l → ComesFirst k a m
first_before k a l m f h x t = let o = f x t in omega (arith, o, h)
