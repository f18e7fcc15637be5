use Rattle.std.proofs.Common.{sym, ◌∙◌, subst}
use Rattle.std.proofs.lemmas.Bool.{false≢true}
use Rattle.fdd_nodes.specs.Fdds.{tree_of}
use Rattle.fdd_nodes.specs.Names.{IsFew}
use Rattle.fdd_nodes.specs.Roots.{part_with}
use Rattle.fdd_nodes.specs.Trees.{Tree, IsOrdered}
use Rattle.fdd_store.specs.Operations.{CofactorOf, IsFieldFrom}
use Rattle.fdd_ops.proofs.PartLaws.{part_few, part_ordered, part_cofactor}
use Rattle.fdd_ops.proofs.ops.cofactor.Goals as goal

pub new-requires-clause-few : goal.new-requires-clause-few
new-requires-clause-few c =
    let e = c.in_ok-part.ensures ∙ c.part_with.ensures ∙ (λ i. part_with (c.field.ensures i) (c.value.ensures i) (c.root-then-is_field_from.ensures i)) in
    subst IsFew (sym e) (part_few c.args.l (tree_of c.args.a.now) c.args.a.now.few)

pub new-requires-clause-ordered : goal.new-requires-clause-ordered
new-requires-clause-ordered c =
    let e = c.in_ok-part.ensures ∙ c.part_with.ensures ∙ (λ i. part_with (c.field.ensures i) (c.value.ensures i) (c.root-then-is_field_from.ensures i)) in
    subst IsOrdered (sym e) (part_ordered c.args.l _ 0 c.args.a.now.ordered)

pub returns-then-is_field_from : goal.returns-then-is_field_from
returns-then-is_field_from c =
    let e = c.new.ensures ∙ c.in_ok-part.ensures ∙ c.part_with.ensures ∙ (λ i. part_with (c.field.ensures i) (c.value.ensures i) (c.root-then-is_field_from.ensures i)) in
    subst (CofactorOf c.args.l (tree_of c.args.a.now)) (sym e) (part_cofactor c.args.l _)

pub cofactor-requires : goal.cofactor-requires
cofactor-requires c =
    subst (λ (t : Tree). ¬ IsFieldFrom c.args.l t) c.root.ensures (λ h. false≢true (sym c.if-is_field_from.false ∙ c.is_field_from.ensures.1 h))
