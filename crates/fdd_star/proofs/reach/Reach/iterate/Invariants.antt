use Rattle.std.proofs.Common.{◌≡◌, ◌≤◌, take, drop, ◌-◌, length}
use Rattle.fdd_star.specs.Asks.{AreVisits, numbered}
use Rattle.fdd_star.specs.Reaches.{reached_copies, Grows, IsNumbered}
use Rattle.fdd_store.specs.Stores.{tree_at}
use Rattle.fdd_star.proofs.reach.Reach.iterate.Given as goal

abbrev pub invariant-loop-i : goal.invariant-loop-i
invariant-loop-i l =
    Grows (tree_at l.store l.scope.body) l.scope.cell.now (take (l.i - l.from) (drop l.from (reached_copies l.fn.self))) l.fn.self l.self × (l.from ≤ l.i) × (l.i-end ≡ length (reached_copies l.fn.self))
    × AreVisits l.store l.found.visits × IsNumbered (numbered l.found.visits) l.scope.body l.scope.cell.now l.self
