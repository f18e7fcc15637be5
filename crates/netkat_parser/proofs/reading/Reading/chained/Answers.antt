use Rattle.std.proofs.Common.{refl}
use Rattle.netkat_parser.specs.declared.stage.Stage.TheVariants as stage
use Rattle.netkat_parser.specs.Views.{at}
use Rattle.netkat_parser.proofs.Moving.{takes-semicolon, takes-plus, stops-chained}
use Rattle.netkat_parser.proofs.reading.Reading.chained.Goals as goal

pub returns-in-Semicolon : goal.returns-in-Semicolon
returns-in-Semicolon c =
    rw c.in-Semicolon.is (takes-semicolon (at c.args.self.now (stage.Behind c.args.pol c.args.atom)) c.args.pol c.args.atom c.factor.new.self refl
    (rw c.in-Semicolon.is at c.requires.places) c.factor.ensures)

pub returns-in-Plus : goal.returns-in-Plus
returns-in-Plus c =
    rw c.in-Plus.is (takes-plus (at c.args.self.now (stage.Behind c.args.pol c.args.atom)) c.args.pol c.args.atom c.summand.new.self refl
    (rw c.in-Plus.is at c.requires.places) c.summand.ensures)

pub returns-in_default : goal.returns-in_default
returns-in_default c =
    rw (c.stray.ensures, c.depth.ensures) (stops-chained (at c.args.self.now (stage.Behind c.args.pol c.args.atom)) c.args.pol c.args.atom c.args.sign refl
    c.requires.places c.requires.star c.in_default.not-Semicolon c.in_default.not-Plus)
