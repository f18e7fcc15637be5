use Rattle.std.proofs.Common.{drop}
use Rattle.std.specs.Prelude.{◌↔◌}
use Rattle.fdd_nodes.specs.Paths.{HasAll}
use Rattle.fdd_nodes.proofs.path.has_all.Given as goal

abbrev pub invariant-loop-l : goal.invariant-loop-l
invariant-loop-l l = HasAll (drop l.l-index l.lits) l.packet ↔ HasAll l.lits l.packet
