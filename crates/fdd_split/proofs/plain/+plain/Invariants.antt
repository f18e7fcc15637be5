use Rattle.std.proofs.Common.{◌+◌, ◌*◌}
use Rattle.fdd_store.specs.Stores.{tree_at}
use Rattle.fdd_store.proofs.ForkLaws.{level}
use Rattle.fdd_split.proofs.plain.+plain.Given as goal

abbrev pub decreases-is_plain : goal.decreases-is_plain
decreases-is_plain l = 2 * level (tree_at l.store.now l.a) + 1

abbrev pub decreases-is_plain_at : goal.decreases-is_plain_at
decreases-is_plain_at l = 2 * level (tree_at l.store.now l.a)
