use Rattle.std.proofs.Common.{drop}
use Rattle.std.specs.Prelude.{◌↔◌}
use Rattle.fdd_nodes.specs.Makes.{Makes}
use Rattle.fdd_nodes.proofs.leaf.copies.makes.Given as goal

abbrev pub invariant-loop-c : goal.invariant-loop-c
invariant-loop-c l = Makes (drop l.c-index l.copies) l.packet l.made ↔ Makes l.copies l.packet l.made
