use Rattle.std.proofs.Common.{drop}
use Rattle.nk_values.specs.declared.packet.Packet.{Packet}
use Rattle.fdd_nodes.specs.Makes.{Makes, MakesAll}
use Rattle.fdd_apart.proofs.outputs.lone_outcome.Given as goal

abbrev pub invariant-loop-c : goal.invariant-loop-c
invariant-loop-c l =
    (MakesAll (drop l.c-index l.xs) l.ys l.packet → MakesAll l.xs l.ys l.packet) × ((x : Packet) → Makes (drop l.c-index l.xs) l.packet x → Makes l.xs l.packet x)
