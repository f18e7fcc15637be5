use Rattle.std.proofs.Common.{◌≡◌, ◌++◌, map, take}
use Rattle.openflow_wire.specs.RowChanges.{mod_of}
use Rattle.update_plan.specs.Batches.{bulk}
use Rattle.update_plan.proofs.planning.row_lists.put_bulk.Given as goal

abbrev pub invariant-loop-port : goal.invariant-loop-port
invariant-loop-port l = l.batch ≡ l.initial.batch ++ map (mod_of l.adds) (bulk l.band (map (λ p. p.now) (take l.port-index l.ports)))
