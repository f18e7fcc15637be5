use Rattle.std.proofs.Common.{◌≡◌, List, take}
use Rattle.nk_values.specs.declared.lit.Lit.{Lit}
use Rattle.nk_values.specs.Members.{IsIn}
use Rattle.fdd_split.specs.Pairs.{Meets}
use Rattle.fdd_split.proofs.pairs.meets_some.Given as goal

abbrev pub invariant-loop-d : goal.invariant-loop-d
invariant-loop-d l = (d : List Lit) → IsIn (take l.d-index l.others) d → Meets l.bars l.c d → l.c ≡ d
