use Rattle.std.proofs.Common.{drop}
use Rattle.std.specs.Prelude.{◌↔◌}
use Rattle.leaf_actions.specs.Moves.{Moves}
use Rattle.leaf_actions.proofs.moves.moves.Given as goal

abbrev pub invariant-loop-l : goal.invariant-loop-l
invariant-loop-l l = Moves (drop l.l-index l.lits) ↔ Moves l.lits
