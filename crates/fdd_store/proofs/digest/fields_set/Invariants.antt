use Rattle.std.proofs.Common.{◌≡◌, take, true}
use Rattle.nk_values.specs.declared.field.Field.{Field}
use Rattle.nk_values.specs.declared.lit.Lit.{Lit}
use Rattle.nk_values.specs.Lits.{lit_field}
use Rattle.nk_values.specs.Members.{IsIn}
use Rattle.fdd_nodes.specs.Trees.{Leaf}
use Rattle.fdd_store.specs.Digests.{SetsField}
use Rattle.fdd_store.specs.Sets.{has}
use Rattle.std.proofs.Common.{List}
use Rattle.fdd_store.proofs.digest.fields_set.Given as goal

abbrev pub invariant-loop-c : goal.invariant-loop-c
invariant-loop-c l =
    ((x : List Lit) → IsIn (take l.c-index l.copies) x → (m : Lit) → IsIn x m → has l.all (lit_field m) ≡ true)
    × ((f : Field) → has l.all f ≡ true → SetsField (Leaf (take l.c-index l.copies)) f)
