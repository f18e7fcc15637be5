use Rattle.std.proofs.Common.{◌≡◌, List, take}
use Rattle.nk_values.specs.declared.lit.Lit.{Lit}
use Rattle.nk_values.specs.Lits.{lit_field}
use Rattle.nk_values.specs.Members.{IsIn}
use Rattle.fdd_split.specs.Pairs.{IsCandidate}
use Rattle.fdd_split.proofs.leaves.has_candidate.Given as goal

abbrev pub invariant-loop-c : goal.invariant-loop-c
invariant-loop-c l = (c : List Lit) → IsIn (take l.c-index l.copies) c → (x : Lit) → IsIn c x → lit_field x ≡ l.field → ¬ IsCandidate l.bars x l.found
