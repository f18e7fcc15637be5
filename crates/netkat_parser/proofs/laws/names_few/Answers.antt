use Rattle.netkat_parser.proofs.Naming.{text-few}
use Rattle.netkat_parser.proofs.laws.names_few.Goals as goal

pub returns : goal.returns
returns c = text-few
