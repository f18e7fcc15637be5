use Rattle.std.proofs.Common.{◌∙◌, ap, sym}
use Rattle.std.proofs.lemmas.Bool.{false≢true}
use Rattle.nk_values.specs.declared.lit.Lit.{Lit}
use Rattle.nk_values.specs.Lits.{lit_field}
use Rattle.fdd_split.proofs.BarLaws.{narrows_last, narrows_same}
use Rattle.fdd_split.proofs.branches.with_literal.Goals as goal
use Rattle.fdd_split.proofs.branches.with_literal.Goals.{then-sets+in_ok-push, else-sets}

pub returns : goal.returns
returns c = elim c.if-sets.branch [
  | then-sets+in_ok-push w ↦ narrows_last _ _ _ _ ((λ i. (w.bars-is i).items) ∙ w.in_ok-push.ensures.items)
  | else-sets w ↦ narrows_same _ _ _ _ (λ i. (w.bars-is i).items) (λ x s b. false≢true (w.if-sets.ensures.1 (record {
    lit = x;
    assigned = s;
    field = ap (λ (m : Lit). lit_field m) (sym b) ∙ sym c.field.ensures;
  })))
]
