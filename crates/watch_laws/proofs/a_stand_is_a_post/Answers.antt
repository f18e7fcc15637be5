use Rattle.watch_laws.proofs.Posted.{stand-is-post}
use Rattle.watch_laws.proofs.a_stand_is_a_post.Goals as goal

pub returns : goal.returns
returns c = stand-is-post
