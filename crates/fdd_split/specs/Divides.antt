-- How diagrams are divided, test by test.
use Rattle.std.specs.Prelude.{◌≡◌, ◌⊎◌, List}
use Rattle.nk_values.specs.declared.lit.Lit.{Lit}
use Rattle.nk_values.specs.Lits.{lit_field}
use Rattle.nk_values.specs.Ranges.{place}
use Rattle.fdd_nodes.specs.Trees.{Tree, Leaf, Node}
use Rattle.fdd_store.specs.Canonical.{IsCanonical, IsLater}
use Rattle.fdd_store.specs.Results.{Cuts}
use Rattle.fdd_split.specs.declared.bars.Bar.{Bar}
use Rattle.fdd_split.specs.declared.bars.Bar.TheVariants.{OfField, Literal}
use Rattle.fdd_split.specs.Bars.{Narrows}
use Rattle.fdd_split.specs.Threats.{Threat, HasNoThreat, ComesFirst}

-- the first test is the diagram's own: T and E say how its branches are divided
pub record Branches (k : List Bar) (a : Tree) (l : Lit) (T E : List Bar → Tree → Type 0) : Type 0 where
  pub yes : Tree
  pub no : Tree
  pub is : a ≡ Node l yes no
  pub first : ComesFirst k a l
  pub yes_bars : List Bar
  pub no_bars : List Bar
  pub yes_narrows : Narrows k yes_bars (OfField (place (lit_field l))) yes
  pub no_narrows : Narrows k no_bars (Literal l) no
  pub then_is : T yes_bars yes
  pub else_is : E no_bars no

-- the first test is of the first threat, which comes before all tests of the diagram
pub record Doubles (k : List Bar) (a : Tree) (l : Lit) (T E : List Bar → Tree → Type 0) : Type 0 where
  pub threat : Threat k a l
  pub first : ComesFirst k a l
  pub before : IsLater l a
  pub part : Tree
  pub made : IsCanonical part
  pub cuts : Cuts l a part
  pub yes_bars : List Bar
  pub no_bars : List Bar
  pub yes_narrows : Narrows k yes_bars (OfField (place (lit_field l))) part
  pub no_narrows : Narrows k no_bars (Literal l) a
  pub then_is : T yes_bars part
  pub else_is : E no_bars a

-- r is the diagram a, divided by its threats on packets that hold nothing barred
abbrev pub Divides : List Bar → Tree → Tree → Type 0
Divides k a (Leaf cs) = HasNoThreat k a × (a ≡ Leaf cs)
Divides k a (Node l t e) =
    (HasNoThreat k a × (a ≡ Node l t e)) ⊎
    (Branches k a l (λ j x. Divides j x t) (λ j x. Divides j x e) ⊎
    Doubles k a l (λ j x. Divides j x t) (λ j x. Divides j x e))
