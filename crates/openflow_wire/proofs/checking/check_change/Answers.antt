use Rattle.std.proofs.Common.{rules, arith}
use Rattle.openflow_wire.proofs.CheckLaws.{change-checked}
use Rattle.openflow_wire.proofs.checking.check_change.Goals as goal

pub returns : goal.returns
returns c = change-checked c.args.body.now c.in-Some.field-0 c.check_actions.result (omega arith) (search rules) (rw (← c.split_at.ensures.back) c.check_actions.ensures)
