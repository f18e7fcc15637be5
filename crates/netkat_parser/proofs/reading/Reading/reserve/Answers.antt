use Rattle.std.proofs.Common.{refl}
use Rattle.netkat_parser.proofs.reading.Reading.reserve.Goals as goal

pub returns-clause-keeps : goal.returns-clause-keeps
returns-clause-keeps c = (λ x h. record { stage = h.stage; levels = h.levels; inside = h.inside; chain = c.reserve.ensures.same _ _ _ h.chain }, refl)
