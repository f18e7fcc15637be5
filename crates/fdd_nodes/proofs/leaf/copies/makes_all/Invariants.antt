use Rattle.std.proofs.Common.{drop}
use Rattle.std.specs.Prelude.{◌↔◌}
use Rattle.fdd_nodes.specs.Makes.{MakesAll}
use Rattle.fdd_nodes.proofs.leaf.copies.makes_all.Given as goal

abbrev pub invariant-loop-c : goal.invariant-loop-c
invariant-loop-c l = MakesAll (drop l.c-index l.xs) l.ys l.packet ↔ MakesAll l.xs l.ys l.packet
