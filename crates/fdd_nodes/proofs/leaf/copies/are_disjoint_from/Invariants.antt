use Rattle.std.proofs.Common.{drop}
use Rattle.std.specs.Prelude.{◌↔◌}
use Rattle.fdd_nodes.specs.Makes.{AreDisjointFrom}
use Rattle.fdd_nodes.proofs.leaf.copies.are_disjoint_from.Given as goal

abbrev pub invariant-loop-c : goal.invariant-loop-c
invariant-loop-c l = AreDisjointFrom l.cell (drop l.c-index l.copies) ↔ AreDisjointFrom l.cell l.copies
