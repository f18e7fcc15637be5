use Rattle.report_laws.proofs.Rereading.{printed-is-read}
use Rattle.report_laws.proofs.laws.printed_is_read.Goals as goal

pub returns : goal.returns
returns c = printed-is-read
