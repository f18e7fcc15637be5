use Rattle.std.proofs.Common.{drop}
use Rattle.switch_model.proofs.StatsLaws.{GoesOn}
use Rattle.switch_model.proofs.stats.rows_meant.Given as goal

abbrev pub invariant-loop-row : goal.invariant-loop-row
invariant-loop-row l = GoesOn l.change l.rows (drop l.row-index l.rows) l.meant.items
