use Rattle.nk_syntax.specs.Views.{term_of}
use Rattle.netkat_parser.proofs.PolLiterals.{pol-literals}
use Rattle.netkat_parser.proofs.ReadBack.{read-back}
use Rattle.netkat_parser.proofs.laws.read_back.Goals as goal

pub returns-clause-term : goal.returns-clause-term
returns-clause-term c = read-back

pub returns-clause-policy : goal.returns-clause-policy
returns-clause-policy c = λ pol h. read-back (term_of pol) (pol-literals pol) h
