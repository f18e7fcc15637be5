use Rattle.std.proofs.Common.{sym, subst, ◌∙◌}
use Rattle.std.proofs.lemmas.Bool.{false≢true}
use Rattle.fdd_star.proofs.NarrowLaws.{narrowed_where}
use Rattle.fdd_store.specs.Digests.{SetsField}
use Rattle.fdd_store.specs.Stores.{tree_at}
use Rattle.fdd_star.proofs.repetition.inner_of.Goals as goal

pub returns-else-sets-clause-inner : goal.returns-else-sets-clause-inner
returns-else-sets-clause-inner c = λ cell. narrowed_where _ _ cell c.args.l.now (λ w. false≢true (sym c.if-sets.false ∙ c.sets.ensures.1 (subst (SetsField (tree_at c.args.store.now c.args.body)) (sym c.field.ensures) w))) c.requires.left
