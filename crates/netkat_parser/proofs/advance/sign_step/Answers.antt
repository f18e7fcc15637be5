use Rattle.netkat_parser.specs.Views.{view_of}
use Rattle.netkat_parser.proofs.Advancing.{stays-same, sign-takes, sign-stops}
use Rattle.netkat_parser.proofs.advance.sign_step.Goals as goal

pub returns-in_default : goal.returns-in_default
returns-in_default c = (c.in_default.ensures.cut, stays-same (view_of c.args.reading.now) c.args.text.now c.args.end)

pub returns-in-Ok : goal.returns-in-Ok
returns-in-Ok c = sign-takes (view_of c.args.reading.now) (view_of c.pass.new.self) c.args.text.now c.args.end c.in-Some.sign c.in-Some.len c.in-Some.ensures.whole c.in-Ok.ensures

pub returns-in-Err : goal.returns-in-Err
returns-in-Err c =
    sign-stops (Unit {0}) (view_of c.args.reading.now) (view_of c.pass.new.self) c.args.text.now c.args.end c.in-Some.sign c.in-Some.len c.in-Err.halt c.in-Some.ensures.whole
    c.requires c.in-Err.ensures
