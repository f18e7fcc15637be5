use Rattle.std.proofs.Common.{◌≡◌, take}
use Rattle.fdd_star.specs.Reaches.{AsksAll}
use Rattle.fdd_star.proofs.reach.Reach.note.Given as goal

abbrev pub invariant-loop-l : goal.invariant-loop-l
invariant-loop-l l = AsksAll (take l.l-index l.asked) l.fn.self l.self × (l.self.numbers ≡ l.fn.self.numbers) × (l.self.copies ≡ l.fn.self.copies)
