use Rattle.topology_model.proofs.Growth.{faultless, end_cause}
use Rattle.topology_model.proofs.topology.Topology.build.Goals as goal

pub returns-in-Ok-clause-faultless : goal.returns-in-Ok-clause-faultless
returns-in-Ok-clause-faultless c = faultless c.args.lines.now c.in_ok-draft.draft c.in_ok-draft.ensures.layout c.in_ok-draft.ensures.faultless c.in-Ok.ensures.faultless

pub returns-in-Err-clause-cause : goal.returns-in-Err-clause-cause
returns-in-Err-clause-cause c = rw c.at.ensures (end_cause c.args.lines.now c.in_ok-draft.draft c.in-Err.error c.in_ok-draft.ensures.layout c.in_ok-draft.ensures.faultless c.in-Err.ensures.cause)
