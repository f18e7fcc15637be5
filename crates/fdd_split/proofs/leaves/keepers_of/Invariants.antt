use Rattle.std.proofs.Common.{List, take}
use Rattle.std.specs.Prelude.{◌↔◌}
use Rattle.nk_values.specs.declared.lit.Lit.{Lit}
use Rattle.nk_values.specs.Members.{IsIn}
use Rattle.fdd_split.specs.Threats.{KeepsField}
use Rattle.fdd_split.proofs.leaves.keepers_of.Given as goal

abbrev pub invariant-loop-c : goal.invariant-loop-c
invariant-loop-c l = (d : List Lit) → IsIn l.keepers.items d ↔ (IsIn (take l.c-index l.copies) d × KeepsField d l.field)
