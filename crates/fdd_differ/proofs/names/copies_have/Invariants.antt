use Rattle.std.proofs.Common.{drop}
use Rattle.std.specs.Prelude.{◌↔◌}
use Rattle.fdd_differ.specs.Unnamed.{CopiesName}
use Rattle.fdd_differ.proofs.names.copies_have.Given as goal

abbrev pub invariant-loop-c : goal.invariant-loop-c
invariant-loop-c l = CopiesName (drop l.c-index l.copies) l.f l.value ↔ CopiesName l.copies l.f l.value
