use Rattle.fdd_store.specs.Stores.{Grows}
use Rattle.fdd_star.proofs.narrow.parts.Given as goal

abbrev pub invariant-loop-l : goal.invariant-loop-l
invariant-loop-l l = Grows l.fn.store l.store
