use Rattle.std.proofs.Common.{◌≡◌, List, take}
use Rattle.nk_values.specs.declared.lit.Lit.{Lit}
use Rattle.nk_values.specs.Members.{IsIn}
use Rattle.fdd_nodes.specs.Copies.{IsCopy}
use Rattle.fdd_store.proofs.copies.SharedCopies.all_kept.Given as goal

abbrev pub invariant-loop-c : goal.invariant-loop-c
invariant-loop-c l = (l.all.items ≡ take l.c-index l.copies) × ((x : List Lit) → IsIn (take l.c-index l.copies) x → IsCopy x)
