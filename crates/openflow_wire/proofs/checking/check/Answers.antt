use Rattle.openflow_wire.proofs.CheckLaws.{is-spelled, is-first}
use Rattle.openflow_wire.proofs.checking.check.Goals as goal

pub returns-clause-message : goal.returns-clause-message
returns-clause-message c = is-spelled c.args.bytes.now c.check_whole.result c.check_whole.ensures

pub returns-clause-fault : goal.returns-clause-fault
returns-clause-fault c = is-first c.args.bytes.now c.check_whole.result c.check_whole.ensures
