use Rattle.std.proofs.Common.{◌≡◌, ◌++◌, map, take}
use Rattle.openflow_wire.specs.RowChanges.{mod_of}
use Rattle.update_plan.proofs.planning.row_lists.put_rows.Given as goal

abbrev pub invariant-loop-row : goal.invariant-loop-row
invariant-loop-row l = l.batch ≡ l.initial.batch ++ map (mod_of l.adds) (take l.row-index l.rows)
