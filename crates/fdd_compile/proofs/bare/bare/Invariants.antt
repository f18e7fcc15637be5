use Rattle.std.proofs.Common.{map, take}
use Rattle.fdd_store.specs.Stores.{tree_at}
use Rattle.fdd_compile.specs.Folds.{AreHeld}
use Rattle.fdd_compile.specs.Sums.{AreAlike, below_of}
use Rattle.fdd_compile.proofs.bare.bare.Given as goal

abbrev pub invariant-loop-summand : goal.invariant-loop-summand
invariant-loop-summand l = AreHeld l.store l.parts.items × AreAlike (map (tree_at l.store) l.parts.items) (map (below_of l.store) (take l.summand-index l.summands))
