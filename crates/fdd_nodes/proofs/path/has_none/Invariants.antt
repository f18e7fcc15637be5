use Rattle.std.proofs.Common.{drop}
use Rattle.std.specs.Prelude.{◌↔◌}
use Rattle.fdd_nodes.specs.Paths.{HasNone}
use Rattle.fdd_nodes.proofs.path.has_none.Given as goal

abbrev pub invariant-loop-l : goal.invariant-loop-l
invariant-loop-l l = HasNone (drop l.l-index l.lits) l.packet ↔ HasNone l.lits l.packet
