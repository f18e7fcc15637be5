use Rattle.std.proofs.Common.{◌∙◌, refl}
use Rattle.std.proofs.lemmas.List.{length-set}
use Rattle.world_journal.proofs.Returning.{sessions-taken, sessions-taken-back}
use Rattle.world_journal.proofs.run.Run.drop_waiting.Goals as goal

pub invariant_of-self : goal.invariant_of-self
invariant_of-self g c = (
  c.self.invariant.0,
  c.self.invariant.1,
  c.self.invariant.2,
  c.self.invariant.3,
  c.self.invariant.4,
  length-set c.self.inside.to_waits.items c.args.s _ ∙ c.self.invariant.5,
  length-set c.self.inside.back_waits.items c.args.s _ ∙ c.self.invariant.6,
  sessions-taken-back _ _ _ _ _ _ _ c.args.s _ refl (sessions-taken _ _ _ _ _ _ _ c.args.s _ refl c.self.invariant.7),
  c.self.invariant.8,
)
