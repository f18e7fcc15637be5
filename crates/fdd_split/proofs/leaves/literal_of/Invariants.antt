use Rattle.std.proofs.Common.{take}
use Rattle.fdd_split.specs.Threats.{KeepsField}
use Rattle.fdd_split.proofs.leaves.literal_of.Given as goal

abbrev pub invariant-loop-l : goal.invariant-loop-l
invariant-loop-l l = KeepsField (take l.l-index l.copy) l.field
