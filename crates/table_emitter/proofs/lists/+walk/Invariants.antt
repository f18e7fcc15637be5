use Rattle.std.specs.Prelude.{◌≤◌}
use Rattle.fdd_nodes.specs.Trees.{tree}
use Rattle.table_emitter.specs.Emission.{CanBeMade}
use Rattle.table_emitter.proofs.Depths.{tests_in}
use Rattle.table_emitter.proofs.Walking.{IsWalked}
use Rattle.table_emitter.proofs.lists.+walk.Given as goal

abbrev pub decreases-walk : goal.decreases-walk
decreases-walk l = tests_in (tree l.part.now)

abbrev pub decreases-loop-node : goal.decreases-loop-node
decreases-loop-node l = tests_in (tree l.node)

abbrev pub invariant-loop-node : goal.invariant-loop-node
invariant-loop-node l = record {
  walked : IsWalked l.listing.view.now l.listing.top l.cell l.initial.known l.known (tree l.part) (tree l.node) l.initial.rows.items l.rows.items;
  made : CanBeMade (tree l.node);
  smaller : tests_in (tree l.node) ≤ tests_in (tree l.part);
}
