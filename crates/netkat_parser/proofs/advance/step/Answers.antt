use Rattle.netkat_parser.proofs.advance.step.Goals as goal

pub returns-in-Some : goal.returns-in-Some
returns-in-Some c = c.in-Some.ensures.some c.args.end
