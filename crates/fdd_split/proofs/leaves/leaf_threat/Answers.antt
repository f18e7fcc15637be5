use Rattle.std.proofs.Common.{rules, ◌+◌, List, take, Option, sym, ◌∙◌, subst}
use Rattle.nk_values.specs.declared.field.Field.{Field}
use Rattle.nk_values.specs.declared.lit.Lit.{Lit}
use Rattle.std.proofs.lemmas.List.{take_all}
use Rattle.fdd_nodes.specs.Trees.{Leaf}
use Rattle.fdd_split.specs.Pairs.{FieldThreat, IsFirstOf}
use Rattle.fdd_split.proofs.FieldLaws.{LeafThreat, field_more, field_unset, each_field, next_taken, every_field, denied, fields, leaf_copies}
use Rattle.fdd_split.proofs.FirstLaws.{first_with}
use Rattle.fdd_split.proofs.ForkLaws.{leaf_first}
use Rattle.fdd_split.proofs.leaves.leaf_threat.Goals as goal
use Rattle.fdd_split.proofs.leaves.leaf_threat.Goals.{then-sets+in_ok-first, else-sets}

pub field_threat-requires : goal.field_threat-requires
field_threat-requires c = λ x i. leaf_copies _ _ c.requires.made (c.leaf.ensures ∙ (λ j. Leaf (sym c.copies-copies.ensures.list j))) x i

pub loop-field-preserved : goal.loop-field-preserved
loop-field-preserved c = elim c.if-sets.branch [
  | then-sets+in_ok-first w ↦
      subst (λ (o : Option Lit). IsFirstOf (LeafThreat c.args.bars.now c.copies-copies.result.now (take (c.loop-field.field-index + 1) fields)) o) (sym w.first-is)
      (field_more _ _ _ _ _ _ (next_taken _ _ _ c.loop-field-test.true (search rules))
      (first_with (LeafThreat c.args.bars.now c.copies-copies.result.now _) (FieldThreat c.args.bars.now c.copies-copies.result.now c.copies-copies.result.now _) c.loop-field.first _ c.loop-field.invariant w.in_ok-first.ensures))
  | else-sets w ↦
      subst (λ (o : Option Lit). IsFirstOf (LeafThreat c.args.bars.now c.copies-copies.result.now (take (c.loop-field.field-index + 1) fields)) o) (sym w.first-is)
      (field_unset _ _ _ _ _ _ _ (c.leaf.ensures ∙ (λ i. Leaf (sym c.copies-copies.ensures.list i))) (denied _ c.sets.ensures.1 w.if-sets.false) (next_taken _ _ _ c.loop-field-test.true (search rules)) c.loop-field.invariant)
]

pub returns : goal.returns
returns c = leaf_first _ _ _ _ _ c.leaf.ensures c.copies-copies.ensures.list (each_field _ _ _ _ every_field (subst (λ (fs : List Field). IsFirstOf (LeafThreat c.args.bars.now c.copies-copies.result.now fs) c.loop-field.first) (take_all _ _ c.loop-field-test.false) c.loop-field.invariant))
