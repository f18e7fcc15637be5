use Rattle.std.proofs.Common.{take}
use Rattle.fdd_split.proofs.BarLaws.{Omits}
use Rattle.fdd_split.proofs.barring.with_bar.Given as goal

abbrev pub invariant-loop-b : goal.invariant-loop-b
invariant-loop-b l = Omits (take l.b-index l.bars) l.all.items l.bar
