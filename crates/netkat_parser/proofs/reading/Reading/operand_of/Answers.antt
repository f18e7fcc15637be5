use Rattle.std.proofs.Common.{rules}
use Rattle.netkat_parser.specs.Pairs.{pairs}
use Rattle.netkat_parser.specs.Views.{view_of}
use Rattle.netkat_parser.proofs.PairSteps.{takes-pair}
use Rattle.netkat_parser.proofs.reading.Reading.operand_of.Goals as goal

pub returns-in-Ok-true-clause-some : goal.returns-in-Ok-true-clause-some
returns-in-Ok-true-clause-some c =
    takes-pair (view_of c.args.self.now) c.args.pair.operator c.args.pair.lit c.in-Ok-true.field-0 (pairs c.name.new.self) c.policy_of.result c.requires (c.if-not-allows.ensures (search rules))
    c.in-Ok-true.field-0-test c.in-Ok-true.ensures.room c.in-Ok-true.ensures.pairs c.policy_of.ensures
