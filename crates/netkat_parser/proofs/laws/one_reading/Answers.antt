use Rattle.netkat_parser.proofs.Unique.{reading-one, text-one}
use Rattle.netkat_parser.proofs.Total.{read-or-fault}
use Rattle.netkat_parser.proofs.laws.one_reading.Goals as goal

pub returns-clause-outcome : goal.returns-clause-outcome
returns-clause-outcome c = reading-one

pub returns-clause-reading : goal.returns-clause-reading
returns-clause-reading c = text-one

pub returns-clause-some : goal.returns-clause-some
returns-clause-some c = read-or-fault
