use Rattle.history_meaning.proofs.MoreTurns.{den-more}
use Rattle.history_meaning.proofs.laws.more_iterations_more_histories.Goals as goal

pub returns : goal.returns
returns c = den-more
