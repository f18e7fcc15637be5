use Rattle.std.proofs.Common.{◌≡◌, take}
use Rattle.table_audit.proofs.report.transfer_all.Given as goal

abbrev pub invariant-loop-message : goal.invariant-loop-message
invariant-loop-message l = l.all.items ≡ take l.message-index l.messages
