use Rattle.std.proofs.Common.{◌≡◌, ◌++◌, map, take}
use Rattle.openflow_wire.specs.RowChanges.{mod_of}
use Rattle.update_plan.specs.Batches.{round_rows}
use Rattle.update_plan.proofs.planning.row_lists.put_round.Given as goal

abbrev pub invariant-loop-port : goal.invariant-loop-port
invariant-loop-port l = l.batch ≡ l.initial.batch ++ map (mod_of l.adds) (round_rows l.adds l.round l.band (map (λ p. p.now) (take l.port-index l.ports)))
