use Rattle.std.proofs.Common.{rules}
use Rattle.world_journal.proofs.Returning.{sessions-taken-back}
use Rattle.world_journal.proofs.run.Run.take_back_end.Goals as goal

pub invariant_of-self : goal.invariant_of-self
invariant_of-self g c = (
  c.self.invariant.0,
  c.self.invariant.1,
  c.self.invariant.2,
  c.self.invariant.3,
  c.self.invariant.4,
  c.self.invariant.5,
  c.self.invariant.6,
  sessions-taken-back _ _ _ _ _ _ _ c.args.s c.take.new.self (search rules) c.self.invariant.7,
  c.self.invariant.8,
)
