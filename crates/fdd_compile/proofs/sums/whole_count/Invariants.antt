use Rattle.std.proofs.Common.{take}
use Rattle.fdd_compile.specs.Sums.{HaveNoneAt}
use Rattle.fdd_compile.proofs.sums.whole_count.Given as goal

abbrev pub invariant-loop-i : goal.invariant-loop-i
invariant-loop-i l = HaveNoneAt l.from (take l.i l.summands)
