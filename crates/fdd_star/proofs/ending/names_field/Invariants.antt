use Rattle.std.proofs.Common.{◌≡◌, take}
use Rattle.nk_values.specs.declared.lit.Lit.{Lit}
use Rattle.nk_values.specs.Lits.{lit_field}
use Rattle.nk_values.specs.Members.{IsIn}
use Rattle.fdd_star.proofs.ending.names_field.Given as goal

abbrev pub invariant-loop-l : goal.invariant-loop-l
invariant-loop-l l = (m : Lit) → IsIn (take l.l-index l.lits) m → ¬ (lit_field m ≡ l.f)
