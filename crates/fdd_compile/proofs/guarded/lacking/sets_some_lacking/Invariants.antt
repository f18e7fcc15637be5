use Rattle.std.proofs.Common.{take}
use Rattle.nk_values.specs.declared.field.Field.{Field}
use Rattle.nk_values.specs.Members.{IsIn}
use Rattle.fdd_differ.specs.Frames.{Lacks}
use Rattle.fdd_store.specs.Digests.{SetsField}
use Rattle.fdd_store.specs.Stores.{tree_at}
use Rattle.fdd_compile.proofs.guarded.lacking.sets_some_lacking.Given as goal

abbrev pub invariant-loop-field : goal.invariant-loop-field
invariant-loop-field l = (f : Field) → IsIn (take l.field-index l.field-items) f → Lacks l.frame f → ¬ SetsField (tree_at l.store l.a) f
