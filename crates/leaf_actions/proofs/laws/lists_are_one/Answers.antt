use Rattle.leaf_actions.proofs.Unique.{one_list}
use Rattle.leaf_actions.proofs.laws.lists_are_one.Goals as goal

pub returns : goal.returns
returns c = one_list
