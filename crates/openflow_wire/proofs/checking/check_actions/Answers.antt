use Rattle.openflow_wire.proofs.ActionLaws.{bad-action}
use Rattle.openflow_wire.proofs.checking.check_actions.Goals as goal

pub returns-else-are_whole : goal.returns-else-are_whole
returns-else-are_whole c = bad-action c.args.bytes.now (λ h. let t = c.are_whole.ensures.1 h in let f = c.if-are_whole.false in cc)
