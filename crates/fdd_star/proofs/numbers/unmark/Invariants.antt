use Rattle.std.proofs.Common.{take}
use Rattle.fdd_star.proofs.MarkLaws.{Unmarks}
use Rattle.fdd_star.proofs.numbers.unmark.Given as goal

abbrev pub invariant-loop-number : goal.invariant-loop-number
invariant-loop-number l = Unmarks (take l.number-index l.numbers) l.fn.marks.items l.marks.items
