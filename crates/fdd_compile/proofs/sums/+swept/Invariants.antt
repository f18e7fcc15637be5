use Rattle.std.proofs.Common.{◌∷◌, map, take, ◌+◌, ◌*◌, ◌-◌, length}
use Rattle.fdd_store.specs.Stores.{Gives, Grows, tree_at}
use Rattle.fdd_compile.specs.Folds.{UnionOfAll}
use Rattle.fdd_compile.specs.Sums.{left_of}
use Rattle.fdd_compile.proofs.SweepLaws.{tests_left}
use Rattle.fdd_compile.proofs.sums.+swept.Given as goal

abbrev pub decreases-closed : goal.decreases-closed
decreases-closed l = 3 * tests_left l.from l.run.now

abbrev pub decreases-sweep : goal.decreases-sweep
decreases-sweep l = 3 * tests_left l.from l.summands.now + 1

abbrev pub decreases-swept : goal.decreases-swept
decreases-swept l = 3 * tests_left l.from l.summands.now + 2

abbrev pub invariant-sweep-loop-start : goal.invariant-sweep-loop-start
invariant-sweep-loop-start l = record {
  grows : Grows l.fn.store l.store;
  sum : Gives l.store l.whole (UnionOfAll (tree_at l.fn.store l.fn.rest ∷ map (left_of l.from l.fn.store) (take l.start l.summands)));
}

abbrev pub decreases-sweep-loop-start : goal.decreases-sweep-loop-start
decreases-sweep-loop-start l = length l.summands - l.start
