use Rattle.history_meaning.proofs.Growing.{future-past}
use Rattle.history_meaning.proofs.laws.futures_go_on.Goals as goal

pub returns : goal.returns
returns c = future-past
