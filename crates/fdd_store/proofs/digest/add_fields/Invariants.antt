use Rattle.std.proofs.Common.{◌≡◌, ◌⊎◌, take, true}
use Rattle.nk_values.specs.declared.field.Field.{Field}
use Rattle.nk_values.specs.declared.lit.Lit.{Lit}
use Rattle.nk_values.specs.Lits.{lit_field}
use Rattle.nk_values.specs.Members.{IsIn}
use Rattle.fdd_store.specs.Digests.{IsFieldOf}
use Rattle.fdd_store.specs.Sets.{has}
use Rattle.fdd_store.proofs.digest.add_fields.Given as goal

abbrev pub invariant-loop-l : goal.invariant-loop-l
invariant-loop-l l =
    ((m : Lit) → IsIn (take l.l-index l.lits) m → has l.all (lit_field m) ≡ true)
    × ((m : Lit) → has l.fn.all (lit_field m) ≡ true → has l.all (lit_field m) ≡ true)
    × ((f : Field) → has l.all f ≡ true → (has l.fn.all f ≡ true) ⊎ IsFieldOf (take l.l-index l.lits) f)
