use Rattle.std.proofs.Common.{[], ◌∷◌}
use Rattle.fdd_store.specs.Stores.{Has, tree_at}
use Rattle.fdd_compile.specs.Sums.{AreAlike, height, if_all}
use Rattle.fdd_compile.proofs.summand.Summand.new.Given as goal

abbrev pub invariant-loop-front : goal.invariant-loop-front
invariant-loop-front l =
    Has l.store l.all.below × AreAlike (if_all l.all.tests.items (tree_at l.store l.all.below) ∷ []) (if_all l.fn.tests.items (tree_at l.store l.fn.below) ∷ [])

abbrev pub decreases-loop-front : goal.decreases-loop-front
decreases-loop-front l = height (tree_at l.store l.all.below)
