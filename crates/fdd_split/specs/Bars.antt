-- What is barred of the literals that copies assign.
use Rattle.std.specs.Prelude.{◌≡◌, ◌⊎◌, List, [], ◌∷◌}
use Rattle.nk_values.specs.declared.lit.Lit.{Lit}
use Rattle.nk_values.specs.Lits.{lit_field}
use Rattle.nk_values.specs.Ranges.{place}
use Rattle.fdd_nodes.specs.Trees.{Tree, Assigns}
use Rattle.fdd_split.specs.declared.bars.Bar.{Bar}
use Rattle.fdd_split.specs.declared.bars.Bar.TheVariants.{OfField, Literal}

-- all literals of a field, or one literal
abbrev pub IsBarredBy : Bar → Lit → Type 0
IsBarredBy (OfField n) l = place (lit_field l) ≡ n
IsBarredBy (Literal m) l = m ≡ l

-- some of them bars the literal
abbrev pub SomeBars : List Bar → Lit → Type 0
SomeBars [] l = ⊥
SomeBars (b ∷ bs) l = IsBarredBy b l ⊎ SomeBars bs l

-- new bars what old and b bar, and nothing that neither bars
pub record AddsBar (old new : List Bar) (b : Bar) : Type 0 where
  pub kept : (x : Lit) → SomeBars old x → SomeBars new x
  pub has : (x : Lit) → IsBarredBy b x → SomeBars new x
  pub only : (x : Lit) → SomeBars new x → SomeBars old x ⊎ IsBarredBy b x

-- the same, but of what b bars only the literals that the diagram assigns need be barred
pub record Narrows (old new : List Bar) (b : Bar) (t : Tree) : Type 0 where
  pub kept : (x : Lit) → SomeBars old x → SomeBars new x
  pub has : (x : Lit) → Assigns t x → IsBarredBy b x → SomeBars new x
  pub only : (x : Lit) → SomeBars new x → SomeBars old x ⊎ IsBarredBy b x
