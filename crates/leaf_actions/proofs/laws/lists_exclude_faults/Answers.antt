use Rattle.leaf_actions.proofs.ChainLaws.{exclude}
use Rattle.leaf_actions.proofs.laws.lists_exclude_faults.Goals as goal

pub returns : goal.returns
returns c = exclude
