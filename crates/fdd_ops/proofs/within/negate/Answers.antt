use Rattle.std.proofs.Common.{sym, subst}
use Rattle.fdd_nodes.specs.Fdds.{tree_of}
use Rattle.fdd_nodes.proofs.MakesLaws.{if_ok}
use Rattle.fdd_store.specs.Operations.{NegationOf}
use Rattle.fdd_ops.proofs.OperationLaws as laws
use Rattle.fdd_ops.proofs.within.negate.Goals as goal

pub negate-requires-clause-few : goal.negate-requires-clause-few
negate-requires-clause-few c = laws.few_one _ _ c.in_ok-x.ensures.place.is c.args.a.now.few

pub negate-requires-clause-predicate : goal.negate-requires-clause-predicate
negate-requires-clause-predicate c = laws.predicate _ _ c.in_ok-x.ensures.place.is c.requires

pub tree-requires-clause-few : goal.tree-requires-clause-few
tree-requires-clause-few c =
    let law = laws.negation _ _ c.in_ok-x.ensures.place.is _ c.in_ok-r.ensures.place.is in
    laws.few_of_one _ _ law.tests law.assigns c.args.a.now.few

pub returns : goal.returns
returns c =
    let law = laws.negation _ _ c.in_ok-x.ensures.place.is _ c.in_ok-r.ensures.place.is in
    if_ok c.tree.result _ _ c.tree.ensures (λ r e. subst (NegationOf (tree_of c.args.a.now)) (sym e) law)
