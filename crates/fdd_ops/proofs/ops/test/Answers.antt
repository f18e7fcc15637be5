use Rattle.std.proofs.Common.{List, [], ◌∷◌, sym, subst, ap, ◌∙◌, arith}
use Rattle.nk_values.specs.declared.lit.Lit.{Lit}
use Rattle.fdd_nodes.specs.Names.{IsFew}
use Rattle.fdd_nodes.specs.Trees.{Tree, Leaf, Node, tree}
use Rattle.fdd_store.specs.Operations.{TestOf}
use Rattle.fdd_store.proofs.PlainLaws.{test_of}
use Rattle.fdd_ops.proofs.ops.test.Goals as goal

pub returns : goal.returns
returns c =
    let keeps = ap tree c.in_ok-yes.ensures.ok ∙ ap Leaf (c.in_ok-keeps.ensures ∙ ap (λ (x : List Lit). x ∷ []) c.in_ok-none.ensures) in
    let drops = ap tree c.in_ok-no.ensures.ok ∙ ap Leaf c.empty.ensures in
    let root = c.new-3.ensures ∙ ap (λ (x : Tree). Node c.args.l x (tree c.in_ok-no.no.value)) keeps ∙ ap (λ (x : Tree). Node c.args.l (Leaf ([] ∷ [])) x) drops in
    let few : IsFew (Node c.args.l (Leaf ([] ∷ [])) (Leaf [])) = omega arith in
    subst (TestOf c.args.l) (sym root) (test_of c.args.l few)
