use Rattle.std.proofs.Common.{take}
use Rattle.fdd_split.specs.Pairs.{FieldThreat, IsFirstWith}
use Rattle.fdd_split.proofs.leaves.threat_beside.Given as goal

abbrev pub invariant-loop-c : goal.invariant-loop-c
invariant-loop-c l = IsFirstWith l.fn.found (FieldThreat l.bars (take l.c-index l.copies) l.keepers l.field) l.first
