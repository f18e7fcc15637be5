use Rattle.nk_syntax.proofs.Equations.{term_of-dup}
use Rattle.netkat_parser.specs.Views.{view_of}
use Rattle.netkat_parser.proofs.Moving.{takes-dup, stops-dup}
use Rattle.netkat_parser.proofs.reading.Reading.dup.Goals as goal

pub returns-then-self : goal.returns-then-self
returns-then-self c = stops-dup (view_of c.args.self.now) c.requires c.if-self.true

pub returns : goal.returns
returns c = takes-dup (view_of c.args.self.now) _ c.requires c.if-self.false term_of-dup
