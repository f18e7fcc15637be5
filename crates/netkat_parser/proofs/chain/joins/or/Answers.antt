use Rattle.std.proofs.Common.{arith, sym, map, ◌∙◌}
use Rattle.std.proofs.lemmas.List.{length-map}
use Rattle.nk_syntax.specs.Views.{guard_of}
use Rattle.nk_syntax.proofs.Equations.{guard_of-or}
use Rattle.netkat_parser.proofs.Chains.{or_of_many}
use Rattle.netkat_parser.proofs.chain.joins.or.Goals as goal

pub returns-then-len-ne1 : goal.returns-then-len-ne1
returns-then-len-ne1 c =
    guard_of-or _ ∙ sym (or_of_many (map guard_of c.args.all.items)
    (λ e. c.if-len-ne1.true (omega (arith, e, length-map c.args.all.items guard_of, c.args.all.ok.0))))
