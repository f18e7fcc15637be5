use Rattle.std.proofs.Common.{arith, sym, map, ◌∙◌}
use Rattle.std.proofs.lemmas.List.{length-map}
use Rattle.nk_syntax.specs.Views.{term_of}
use Rattle.nk_syntax.proofs.Equations.{term_of-seq}
use Rattle.netkat_parser.proofs.Chains.{seq_of_many}
use Rattle.netkat_parser.proofs.chain.joins.seq.Goals as goal

pub returns-then-len-ne1 : goal.returns-then-len-ne1
returns-then-len-ne1 c =
    term_of-seq _ ∙ sym (seq_of_many (map term_of c.args.all.items)
    (λ e. c.if-len-ne1.true (omega (arith, e, length-map c.args.all.items term_of, c.args.all.ok.0))))
