use Rattle.nk_syntax.proofs.Equations.{term_of-filter}
use Rattle.netkat_parser.proofs.Chains.{inside-sum}
use Rattle.netkat_parser.proofs.chain.Operands.sum.Goals as goal

pub returns-in-Predicates : goal.returns-in-Predicates
returns-in-Predicates c = λ i ps h. inside-sum i _ c.or.result c.in-Predicates.preds ps (term_of-filter c.or.result) c.or.ensures (rw c.in-Predicates.is at h)
