use Rattle.fdd_split.proofs.FirstLaws.{first_none}
use Rattle.fdd_split.proofs.PlainLaws.{plain_of_leaf}
use Rattle.fdd_split.proofs.plain.is_plain_leaf.Goals as goal

pub returns-in-None : goal.returns-in-None
returns-in-None c = λ z. plain_of_leaf _ c.requires.leaf (first_none _ _ c.in_ok-leaf_threat.ensures c.in-None.is)
