use Rattle.fdd_star.specs.Asks.{AreVisits, numbered}
use Rattle.fdd_star.specs.Reaches.{IsIterated, IsNumbered}
use Rattle.fdd_store.specs.Stores.{tree_at}
use Rattle.fdd_star.proofs.reach.Reach.of.Given as goal

abbrev pub invariant-loop-iteration : goal.invariant-loop-iteration
invariant-loop-iteration l = IsIterated l.scope.first.now (tree_at l.store l.scope.body) l.scope.cell.now l.iteration l.from l.all × AreVisits l.store l.found.visits
    × IsNumbered (numbered l.found.visits) l.scope.body l.scope.cell.now l.all
