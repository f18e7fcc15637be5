use Rattle.world_core.proofs.Beginning.{start-kept}
use Rattle.world_core.proofs.laws.start_is_kept.Goals as goal

pub returns : goal.returns
returns c = start-kept
