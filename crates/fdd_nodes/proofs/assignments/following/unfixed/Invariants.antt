use Rattle.std.proofs.Common.{◌≡◌, drop, ◌++◌}
use Rattle.fdd_nodes.specs.Copies.{strip}
use Rattle.fdd_nodes.proofs.assignments.following.unfixed.Given as goal

abbrev pub invariant-loop-l : goal.invariant-loop-l
invariant-loop-l l = l.kept.items ++ strip l.cell (drop l.l-index l.lits) ≡ strip l.cell l.lits
