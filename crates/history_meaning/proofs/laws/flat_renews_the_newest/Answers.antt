use Rattle.history_meaning.proofs.Local.{den-flat}
use Rattle.history_meaning.proofs.laws.flat_renews_the_newest.Goals as goal

pub returns : goal.returns
returns c = den-flat
