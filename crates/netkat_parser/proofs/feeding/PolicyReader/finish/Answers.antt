use Rattle.netkat_parser.proofs.Standing.{ends-of}
use Rattle.netkat_parser.proofs.feeding.PolicyReader.finish.Goals as goal

pub returns : goal.returns
returns c = λ begin text h. c.close.ensures.answer begin text (ends-of begin c.args.self text h)
