use Rattle.netkat_parser.specs.Views.{view_of}
use Rattle.netkat_parser.proofs.Moving.{gives-whole}
use Rattle.netkat_parser.proofs.reading.Reading.policy.Goals as goal

pub returns : goal.returns
returns c =
    gives-whole (view_of c.args.self) c.in-Behind.pol c.policy.result c.in-Behind.field-1
    (λ i ss qs p h k. c.policy.ensures i ss qs p h k) c.in-Behind.is c.requires.whole.3
