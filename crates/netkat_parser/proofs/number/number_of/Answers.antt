use Rattle.netkat_parser.proofs.Decimals.{number-read}
use Rattle.netkat_parser.proofs.number.number_of.Goals as goal

pub returns-in-Some : goal.returns-in-Some
returns-in-Some c = number-read c.args.field _ c.args.run.now c.in-Some.n c.in-Some.ensures.value
