use Rattle.netkat_parser.proofs.Literals.{too-great}
use Rattle.netkat_parser.proofs.number.literal.Goals as goal

pub returns-in-None : goal.returns-in-None
returns-in-None c = too-great c.args.field _ c.in-None.ensures
