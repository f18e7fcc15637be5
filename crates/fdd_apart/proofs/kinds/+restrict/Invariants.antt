use Rattle.std.proofs.Common.{◌+◌, ◌*◌}
use Rattle.fdd_store.specs.Stores.{tree_at}
use Rattle.fdd_store.proofs.ForkLaws.{level}
use Rattle.fdd_apart.proofs.kinds.+restrict.Given as goal

abbrev pub decreases-restrict : goal.decreases-restrict
decreases-restrict l = 3 * level (tree_at l.store.now l.a) + 2

abbrev pub decreases-restrict_anew : goal.decreases-restrict_anew
decreases-restrict_anew l = 3 * level (tree_at l.store.now l.a) + 1

abbrev pub decreases-restrict_test : goal.decreases-restrict_test
decreases-restrict_test l = 3 * level (tree_at l.store.now l.a)
