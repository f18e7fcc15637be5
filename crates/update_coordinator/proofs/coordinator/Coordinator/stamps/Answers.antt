use Rattle.std.proofs.Common.{◌∙◌}
use Rattle.update_coordinator.proofs.coordinator.Coordinator.stamps.Goals as goal

pub returns : goal.returns
returns c = rw (← c.self.view_is) (c.deref.ensures.value ∙ c.self.invariant.1.stamps)
