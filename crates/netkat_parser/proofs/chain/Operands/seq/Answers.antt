use Rattle.nk_syntax.proofs.Equations.{term_of-filter}
use Rattle.netkat_parser.proofs.Chains.{inside-seq}
use Rattle.netkat_parser.proofs.chain.Operands.seq.Goals as goal

pub returns-in-Predicates : goal.returns-in-Predicates
returns-in-Predicates c = λ i ps h. inside-seq i _ c.and.result c.in-Predicates.preds ps (term_of-filter c.and.result) c.and.ensures (rw c.in-Predicates.is at h)
