use Rattle.std.proofs.Common.{◌≡◌}
use Rattle.fdd_nodes.specs.Trees.{tree}
use Rattle.table_emitter.specs.Passed.{past_ports}
use Rattle.table_emitter.proofs.passing.past_barred.Given as goal

abbrev pub invariant-loop-node : goal.invariant-loop-node
invariant-loop-node l = past_ports (tree l.node) ≡ past_ports (tree l.part)
