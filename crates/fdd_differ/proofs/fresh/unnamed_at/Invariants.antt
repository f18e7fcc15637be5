use Rattle.std.proofs.Common.{ℕ, ◌+◌, ◌<◌}
use Rattle.fdd_differ.specs.Unnamed.{NamesAt}
use Rattle.fdd_differ.proofs.fresh.unnamed_at.Given as goal

abbrev pub invariant-loop-i : goal.invariant-loop-i
invariant-loop-i g l = (k : ℕ) → k < l.i → NamesAt (g.N.Names.names l.names) l.f (l.first + k)
