use Rattle.std.proofs.Common.{sym, subst, refl, ◌∙◌}
use Rattle.world_core.specs.Worlds.{WorldValue}
use Rattle.world_core.specs.Steps.{MayHop}
use Rattle.world_journal.proofs.run.Run.hop_on.Goals as goal

pub returns-in_default-clause-answer : goal.returns-in_default-clause-answer
returns-in_default-clause-answer g c = (sym c.is_closed.ensures ∙ c.if-is_closed.false, λ k may. c.in_default.ensures.none k (subst (λ (w : WorldValue). MayHop k w) (sym c.world.ensures) may), refl)
