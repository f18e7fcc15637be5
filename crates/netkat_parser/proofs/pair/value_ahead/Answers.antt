use Rattle.std.proofs.Common.{false, take, Some, subst}
use Rattle.netkat_parser.specs.Cuts.{IsRunAt}
use Rattle.netkat_parser.specs.Numbers.{IsWritten}
use Rattle.netkat_parser.proofs.PairSteps.{value-ahead}
use Rattle.netkat_parser.proofs.pair.value_ahead.Goals as goal

pub returns : goal.returns
returns c =
    let len = c.in_ok-len.len in
    value-ahead c.args.field c.args.text.now c.in_ok-lit.lit c.skip-blanks.result.0 len c.skip-blanks.ensures.within c.skip-blanks.ensures.rest
    (subst (λ t. IsRunAt t false len) c.behind-rest.ensures c.in_ok-len.ensures.whole)
    (subst (λ t. IsWritten c.args.field (take len t) (Some c.in_ok-lit.lit)) c.behind-rest.ensures c.in_ok-lit.ensures)
