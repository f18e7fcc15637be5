use Rattle.std.proofs.Common.{sym, ◌∙◌}
use Rattle.std.proofs.lemmas.Bool.{false≢true}
use Rattle.fdd_store.specs.Stores.{tree_at}
use Rattle.fdd_compile.proofs.GuardLaws.{none_lacking}
use Rattle.fdd_compile.proofs.guarded.breach_in.Goals as goal

pub returns-then-not-sets_some_lacking : goal.returns-then-not-sets_some_lacking
returns-then-not-sets_some_lacking c = none_lacking c.args.frame (tree_at c.args.store.now c.args.a) _ (λ f l s. false≢true (sym c.if-not-sets_some_lacking.true ∙ c.sets_some_lacking.ensures f l s))
