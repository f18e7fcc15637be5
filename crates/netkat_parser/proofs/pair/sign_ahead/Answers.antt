use Rattle.std.proofs.Common.{false, subst}
use Rattle.netkat_parser.specs.Cuts.{IsSignAt}
use Rattle.netkat_parser.proofs.PairSteps.{sign-ahead}
use Rattle.netkat_parser.proofs.pair.sign_ahead.Goals as goal

pub returns : goal.returns
returns c =
    let len = c.in_ok-sign.len in
    sign-ahead c.args.text.now c.in_ok-sign.sign c.skip-blanks.result.0 len c.skip-blanks.ensures.within c.skip-blanks.ensures.rest
    (subst (λ t. IsSignAt t false c.in_ok-sign.sign len) c.behind.ensures c.in_ok-sign.ensures.whole)
