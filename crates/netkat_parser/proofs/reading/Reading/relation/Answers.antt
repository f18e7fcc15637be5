use Rattle.std.proofs.Common.{refl}
use Rattle.netkat_parser.specs.declared.stage.Stage.TheVariants as stage
use Rattle.netkat_parser.specs.Views.{at}
use Rattle.netkat_parser.proofs.Moving.{takes-equals, takes-becomes, stops-relation, stops-becomes}
use Rattle.netkat_parser.proofs.reading.Reading.relation.Goals as goal

pub returns-in-Becomes : goal.returns-in-Becomes
returns-in-Becomes c = rw c.in-Becomes.is (stops-becomes (at c.args.self.now (stage.Relation c.args.field)) c.args.field refl c.if-self.true)

pub returns-in-Becomes-2 : goal.returns-in-Becomes-2
returns-in-Becomes-2 c = rw c.in-Becomes-2.is (takes-becomes (at c.args.self.now (stage.Relation c.args.field)) c.args.field refl c.if-self.false)

pub returns-in-Equals : goal.returns-in-Equals
returns-in-Equals c = rw c.in-Equals.is (takes-equals (at c.args.self.now (stage.Relation c.args.field)) c.args.field refl)

pub returns-in_default : goal.returns-in_default
returns-in_default c =
    rw (c.stray.ensures, c.depth.ensures) (stops-relation (at c.args.self.now (stage.Relation c.args.field)) c.args.field c.args.sign refl c.in_default.not-Equals c.in_default.not-Becomes)
