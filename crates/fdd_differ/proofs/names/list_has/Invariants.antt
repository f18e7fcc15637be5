use Rattle.std.proofs.Common.{drop}
use Rattle.std.specs.Prelude.{◌↔◌}
use Rattle.fdd_differ.specs.Unnamed.{NamesAt}
use Rattle.fdd_differ.proofs.names.list_has.Given as goal

abbrev pub invariant-loop-l : goal.invariant-loop-l
invariant-loop-l l = NamesAt (drop l.l-index l.lits) l.f l.value ↔ NamesAt l.lits l.f l.value
