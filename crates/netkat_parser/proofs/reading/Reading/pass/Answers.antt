use Rattle.netkat_parser.specs.Views.{view_of}
use Rattle.netkat_parser.proofs.Moving.{passes-on}
use Rattle.netkat_parser.proofs.reading.Reading.pass.Goals as goal

pub returns-in-Err : goal.returns-in-Err
returns-in-Err c = passes-on (Unit {0}) (view_of c.args.self.now) (view_of c.loop-halt.self) (view_of c.take.new.self) c.args.sign c.in-Err.halt c.loop-halt.invariant c.in-Err.ensures
