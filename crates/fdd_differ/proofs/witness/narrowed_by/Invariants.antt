use Rattle.std.proofs.Common.{◌≡◌, drop}
use Rattle.fdd_differ.specs.Witness.{narrowed}
use Rattle.fdd_differ.proofs.witness.narrowed_by.Given as goal

abbrev pub invariant-loop-l : goal.invariant-loop-l
invariant-loop-l l = narrowed l.inner (drop l.l-index l.lits) ≡ narrowed l.fn.cell l.lits
