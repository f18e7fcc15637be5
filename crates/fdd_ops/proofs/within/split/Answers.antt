use Rattle.fdd_nodes.proofs.MakesLaws.{if_ok}
use Rattle.fdd_ops.proofs.OperationLaws as laws
use Rattle.fdd_ops.proofs.within.split.Goals as goal

pub split-requires-clause-few : goal.split-requires-clause-few
split-requires-clause-few c = laws.few_one _ _ c.in_ok-x.ensures.place.is c.args.a.now.few

pub returns : goal.returns
returns c = if_ok c.split.result _ _ c.split.ensures.split (λ r h. laws.split _ _ c.in_ok-x.ensures.place.is _ h)
