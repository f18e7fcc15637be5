use Rattle.std.proofs.Common.{List, sym, ◌∙◌, subst}
use Rattle.nk_values.specs.declared.lit.Lit.{Lit}
use Rattle.nk_values.proofs.PacketLaws.{same_field}
use Rattle.fdd_store.proofs.StoreLaws.{all_more}
use Rattle.nk_values.specs.Lits.{lit_field}
use Rattle.std.proofs.Common.{◌≢◌, ap}
use Rattle.nk_values.specs.Ranges.{place}
use Rattle.fdd_split.specs.Threats.{KeepsField}
use Rattle.fdd_split.proofs.FieldLaws.{next_taken, taken_in}
use Rattle.fdd_split.proofs.leaves.literal_of.Goals as goal

pub returns-then-place-clause-some : goal.returns-then-place-clause-some
returns-then-place-clause-some c = (
  taken_in _ _ _ c.loop-l-test.true c.l-item.is,
  same_field _ _ (ap place (sym c.field.ensures) ∙ sym c.place.ensures ∙ c.if-place.true ∙ c.place-in-loop-l.ensures),
)

pub loop-l-preserved : goal.loop-l-preserved
loop-l-preserved c = subst (λ (ys : List Lit). KeepsField ys c.args.field) (sym (next_taken _ _ _ c.loop-l-test.true c.l-item.is))
    (all_more (λ m. lit_field m ≢ c.args.field) _ _ c.loop-l.invariant
    (λ e. c.if-place.false (c.place.ensures ∙ ap place (c.field.ensures ∙ e) ∙ sym c.place-in-loop-l.ensures)))
