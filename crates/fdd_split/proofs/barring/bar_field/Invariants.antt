use Rattle.std.proofs.Common.{drop}
use Rattle.nk_values.specs.declared.lit.Lit.{Lit}
use Rattle.fdd_split.specs.Bars.{SomeBars}
use Rattle.fdd_split.proofs.barring.bar_field.Given as goal

abbrev pub invariant-loop-b : goal.invariant-loop-b
invariant-loop-b l = (x : Lit) → SomeBars (drop l.b-index l.bars) x → SomeBars l.bars x
