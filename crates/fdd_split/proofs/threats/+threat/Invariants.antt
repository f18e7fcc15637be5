use Rattle.std.proofs.Common.{◌+◌, ◌*◌}
use Rattle.fdd_store.specs.Stores.{tree_at}
use Rattle.fdd_store.proofs.ForkLaws.{level}
use Rattle.fdd_split.proofs.threats.+threat.Given as goal

abbrev pub decreases-first_threat : goal.decreases-first_threat
decreases-first_threat l = 3 * level (tree_at l.store.now l.a) + 1

abbrev pub decreases-threat_at : goal.decreases-threat_at
decreases-threat_at l = 3 * level (tree_at l.store.now l.a)

abbrev pub decreases-threat_behind : goal.decreases-threat_behind
decreases-threat_behind l = 3 * level (tree_at l.store.now l.a) + 2
