use Rattle.std.proofs.Common.{refl}
use Rattle.netkat_parser.specs.declared.stage.Stage.TheVariants as stage
use Rattle.netkat_parser.specs.declared.reading.Level.TheVariants as level
use Rattle.netkat_parser.specs.Views.{within}
use Rattle.netkat_parser.proofs.Moving.{takes-close}
use Rattle.netkat_parser.proofs.reading.Reading.in_bracket.Goals as goal

pub returns-in-Close : goal.returns-in-Close
returns-in-Close c =
    rw (c.in-Close.is, c.replace-inner.ensures.after)
    (takes-close (within c.args.self.now (stage.Behind c.args.pol c.args.atom) (level.Bracket c.args.outer)) c.args.pol c.policy.result c.args.atom c.args.outer _ refl refl
    (rw c.replace-inner.ensures.value at c.policy.ensures))
