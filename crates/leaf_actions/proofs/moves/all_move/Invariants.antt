use Rattle.std.proofs.Common.{drop}
use Rattle.std.specs.Prelude.{◌↔◌}
use Rattle.leaf_actions.specs.Moves.{AllMove}
use Rattle.leaf_actions.proofs.moves.all_move.Given as goal

abbrev pub invariant-loop-copy : goal.invariant-loop-copy
invariant-loop-copy l = AllMove (drop l.copy-index l.copies) ↔ AllMove l.copies
