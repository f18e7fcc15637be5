use Rattle.std.proofs.Common.{◌≤◌, true, false, drop, length, subst}
use Rattle.netkat_parser.specs.declared.stage.Stage.TheVariants as stage
use Rattle.netkat_parser.specs.Standing.{Leaves}
use Rattle.netkat_parser.specs.Views.{at, view_of}
use Rattle.netkat_parser.proofs.PairSteps.{pair-steps}
use Rattle.netkat_parser.proofs.reading.Reading.pair.Goals as goal

pub returns-clause-some : goal.returns-clause-some
returns-clause-some c = λ end.
    let mid = at c.operand_of.new.self (stage.Behind c.in_ok-pol.pol true) in
    let new = view_of c.follow-more.new.self in
    let more = c.follow-more.result in
    pair-steps (view_of c.args.self.now) mid new c.args.text.now end c.in_ok-pair.pair more c.in_ok-pair.ensures c.in_ok-pol.ensures.some
    (subst (λ t. more ≤ length t) c.behind.ensures c.follow-more.ensures.within)
    (subst (λ t. Leaves mid false t end new false (drop more t)) c.behind.ensures (c.follow-more.ensures.leaves end))
