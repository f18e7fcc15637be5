use Rattle.watch_laws.proofs.Posted.{posts-stay}
use Rattle.watch_laws.proofs.posts_stay.Goals as goal

pub returns : goal.returns
returns c = posts-stay
