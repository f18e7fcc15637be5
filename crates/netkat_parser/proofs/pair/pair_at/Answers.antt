use Rattle.std.proofs.Common.{subst}
use Rattle.netkat_parser.specs.Cuts.{relation, IsSignAhead, IsValueAhead}
use Rattle.netkat_parser.proofs.PairSteps.{pair-parts}
use Rattle.netkat_parser.proofs.pair.pair_at.Goals as goal

pub returns : goal.returns
returns c =
    pair-parts c.args.text.now c.in_ok-field.field c.in_ok-operator.operator c.in_ok-lit.lit c.in_ok-field.name c.in_ok-operator.mark c.in_ok-lit.value c.in_ok-field.ensures
    (subst (λ t. IsSignAhead t (relation c.in_ok-operator.operator) c.in_ok-operator.mark) c.behind.ensures c.in_ok-operator.ensures)
    (subst (λ t. IsValueAhead c.in_ok-field.field t c.in_ok-lit.lit c.in_ok-lit.value) c.behind-2.ensures c.in_ok-lit.ensures)
