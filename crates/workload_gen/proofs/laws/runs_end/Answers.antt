use Rattle.workload_gen.proofs.Readying.{runs-end}
use Rattle.workload_gen.proofs.laws.runs_end.Goals as goal

pub returns : goal.returns
returns c = runs-end c.has_room.ensures c.no_dead_end.ensures
