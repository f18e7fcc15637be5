use Rattle.std.proofs.Common.{take}
use Rattle.fdd_store.specs.Looks.{AreLeaves}
use Rattle.fdd_compile.proofs.plain.are_leaves.Given as goal

abbrev pub invariant-loop-part : goal.invariant-loop-part
invariant-loop-part l = AreLeaves l.store (take l.part-index l.parts)
