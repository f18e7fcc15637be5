use Rattle.nk_values.specs.Lits.{lit_field, lit_value}
use Rattle.netkat_parser.specs.Views.{view_of}
use Rattle.netkat_parser.specs.Pairs.{pairs}
use Rattle.netkat_parser.proofs.Moving.{stops-range, stops-many, takes-number}
use Rattle.netkat_parser.proofs.reading.Reading.number.Goals as goal

pub returns-in_default : goal.returns-in_default
returns-in_default c = stops-range (view_of c.args.self.now) c.args.field c.args.operator c.args.run.now c.requires.stage c.requires.some c.in_default.ensures

pub returns-then-not-branch : goal.returns-then-not-branch
returns-then-not-branch c =
    stops-many (view_of c.args.self.now) c.args.field (lit_field c.in-Some.lit) (lit_value c.in-Some.lit) c.args.operator c.args.run.now _ c.requires.stage c.requires.some
    c.in-Some.lit.literal c.in-Some.ensures c.if-not-branch.true c.in_ok-name.ensures.room

pub returns : goal.returns
returns c =
    takes-number (view_of c.args.self.now) c.args.field (lit_field c.in-Some.lit) (lit_value c.in-Some.lit) c.args.operator c.args.run.now _ (pairs c.name.new.self) c.policy_of.result
    c.requires.stage c.requires.some c.in-Some.lit.literal c.in-Some.ensures c.if-not-branch.false c.in_ok-name.ensures.room c.in_ok-name.ensures.pairs c.policy_of.ensures
