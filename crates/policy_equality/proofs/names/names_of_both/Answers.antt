use Rattle.nk_syntax.specs.Views.{term_of}
use Rattle.policy_equality.proofs.CompareLaws.{names-both}
use Rattle.policy_equality.proofs.names.names_of_both.Goals as goal

pub returns : goal.returns
returns c = names-both (term_of c.args.p.now) (term_of c.args.q.now) _ _ _ c.new-names.ensures.empty c.in_ok-add_names.ensures c.in_ok-add_names-2.ensures c.requires.few_p c.requires.few_q
