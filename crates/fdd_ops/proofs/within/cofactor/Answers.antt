use Rattle.std.proofs.Common.{sym, subst}
use Rattle.fdd_nodes.specs.Fdds.{tree_of}
use Rattle.fdd_nodes.proofs.MakesLaws.{if_ok}
use Rattle.fdd_store.specs.Operations.{CofactorOf}
use Rattle.fdd_ops.proofs.OperationLaws as laws
use Rattle.fdd_ops.proofs.within.cofactor.Goals as goal

pub cofactor-requires-clause-few : goal.cofactor-requires-clause-few
cofactor-requires-clause-few c = laws.few_one _ _ c.in_ok-x.ensures.place.is c.args.a.now.few

pub tree-requires-clause-few : goal.tree-requires-clause-few
tree-requires-clause-few c =
    let law = laws.cofactor _ _ c.in_ok-x.ensures.place.is c.args.l _ c.requires c.in_ok-r.ensures.place.is in
    laws.few_of_one _ _ law.tests law.assigns c.args.a.now.few

pub returns : goal.returns
returns c =
    let law = laws.cofactor _ _ c.in_ok-x.ensures.place.is c.args.l _ c.requires c.in_ok-r.ensures.place.is in
    if_ok c.tree.result _ _ c.tree.ensures (λ r e. subst (CofactorOf c.args.l (tree_of c.args.a.now)) (sym e) law)
