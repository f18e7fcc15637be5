use Rattle.netkat_parser.specs.Views.{view_of}
use Rattle.netkat_parser.proofs.Moving.{stops-number}
use Rattle.netkat_parser.proofs.reading.Reading.take.Goals as goal

pub returns-in-Number : goal.returns-in-Number
returns-in-Number c =
    rw (c.stray.ensures, c.depth.ensures)
    (stops-number (view_of c.args.self.now) c.in-Number.field-0 _ c.args.sign c.in-Number.is)
