use Rattle.std.proofs.Common.{sym, subst}
use Rattle.fdd_nodes.specs.Fdds.{tree_of}
use Rattle.fdd_nodes.proofs.MakesLaws.{if_ok}
use Rattle.fdd_store.specs.Operations.{ChoiceOf}
use Rattle.fdd_ops.proofs.OperationLaws as laws
use Rattle.fdd_ops.proofs.within.choice.Goals as goal

pub choice-requires-clause-few : goal.choice-requires-clause-few
choice-requires-clause-few c = laws.few_behind _ _ _ _ c.in_ok-x.ensures.first.is c.in_ok-x.ensures.second.is _ c.requires

pub tree-requires-clause-few : goal.tree-requires-clause-few
tree-requires-clause-few c =
    laws.choice_few _ _ _ _ c.requires (laws.choice _ _ _ _ c.in_ok-x.ensures.first.is c.in_ok-x.ensures.second.is _ _ c.in_ok-r.ensures.place.is)

pub returns : goal.returns
returns c =
    let law = laws.choice _ _ _ _ c.in_ok-x.ensures.first.is c.in_ok-x.ensures.second.is _ _ c.in_ok-r.ensures.place.is in
    if_ok c.tree.result _ _ c.tree.ensures (λ r e. subst (ChoiceOf c.args.l (tree_of c.args.a.now) (tree_of c.args.b.now)) (sym e) law)
