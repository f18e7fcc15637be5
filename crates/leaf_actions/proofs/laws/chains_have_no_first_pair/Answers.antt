use Rattle.leaf_actions.proofs.ChainLaws.{exact}
use Rattle.leaf_actions.proofs.laws.chains_have_no_first_pair.Goals as goal

pub returns : goal.returns
returns c = exact
