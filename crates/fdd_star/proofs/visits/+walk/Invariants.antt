use Rattle.fdd_store.specs.Stores.{tree_at}
use Rattle.fdd_store.proofs.ForkLaws.{level}
use Rattle.fdd_star.proofs.visits.+walk.Given as goal

abbrev pub decreases-walk : goal.decreases-walk
decreases-walk l = level (tree_at l.store.now l.a)
