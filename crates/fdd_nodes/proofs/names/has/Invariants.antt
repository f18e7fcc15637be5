use Rattle.std.proofs.Common.{drop}
use Rattle.std.specs.Prelude.{◌↔◌}
use Rattle.nk_values.specs.Members.{IsIn}
use Rattle.fdd_nodes.proofs.names.has.Given as goal

abbrev pub invariant-loop-m : goal.invariant-loop-m
invariant-loop-m l = IsIn (drop l.m-index l.names) l.l ↔ IsIn l.names l.l
