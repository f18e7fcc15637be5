use Rattle.std.proofs.Common.{take}
use Rattle.nk_values.specs.Members.{IsIn}
use Rattle.fdd_star.specs.Named.{Gains}
use Rattle.fdd_star.proofs.names.add_lits.Given as goal

abbrev pub invariant-loop-l : goal.invariant-loop-l
invariant-loop-l l = Gains (IsIn (take l.l-index l.lits)) l.fn.names.keys l.names.keys
