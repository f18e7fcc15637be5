use Rattle.drive_journal.proofs.Losing.{starts-so}
use Rattle.drive_journal.proofs.laws.starts_halt_at_loss.Goals as goal

pub returns : goal.returns
returns c = starts-so
