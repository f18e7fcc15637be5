use Rattle.fdd_store.specs.Stores.{tree_at}
use Rattle.fdd_store.proofs.ForkLaws.{level}
use Rattle.fdd_star.proofs.names.Names.+add.Given as goal

abbrev pub decreases-add : goal.decreases-add
decreases-add l = level (tree_at l.store.now l.a)
