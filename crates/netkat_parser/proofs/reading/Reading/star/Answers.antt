use Rattle.std.proofs.Common.{true, refl, ap, ◌∙◌}
use Rattle.nk_syntax.specs.Terms as to
use Rattle.nk_syntax.specs.Views.{term_of}
use Rattle.nk_syntax.proofs.Equations.{term_of-star}
use Rattle.netkat_parser.specs.declared.stage.Stage.TheVariants as stage
use Rattle.netkat_parser.specs.Views.{at}
use Rattle.netkat_parser.proofs.Moving.{takes-star, stops-star}
use Rattle.netkat_parser.proofs.reading.Reading.star.Goals as goal

pub returns-then-self : goal.returns-then-self
returns-then-self c = stops-star (at c.args.self.now (stage.Behind c.args.pol true)) c.args.pol refl c.if-self.true

pub returns-in-Ok : goal.returns-in-Ok
returns-in-Ok c = takes-star (at c.args.self.now (stage.Behind c.args.pol true)) c.args.pol _ refl c.if-self.false
    (λ p e. term_of-star c.in-Ok.pol ∙ ap to.Star (ap term_of c.in-Ok.ensures.ok ∙ e))
