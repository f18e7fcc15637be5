use Rattle.report_laws.proofs.Telling.{lines-tell, reports-tell}
use Rattle.report_laws.proofs.laws.lines_tell.Goals as goal

pub returns : goal.returns
returns c = record { lines = lines-tell; reports = reports-tell }
