use Rattle.std.proofs.Common.{◌∙◌}
use Rattle.table_audit.proofs.Reports.{answered}
use Rattle.table_audit.proofs.report.row_report.Goals as goal

pub returns : goal.returns
returns c = answered c.args.switch.now.table.rows c.in_ok-request.request c.deref.result.now c.in_ok-replies.replies.items c.transfer_all.result (c.in_ok-request.ensures ∙ c.request.ensures) c.in_ok-replies.ensures.told c.deref.ensures.value c.transfer_all.ensures
