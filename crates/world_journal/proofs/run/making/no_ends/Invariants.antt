use Rattle.std.proofs.Common.{◌≡◌, None, replicate}
use Rattle.world_journal.proofs.run.making.no_ends.Given as goal

abbrev pub invariant-loop-made : goal.invariant-loop-made
invariant-loop-made g l = l.ends.items ≡ replicate l._made None
