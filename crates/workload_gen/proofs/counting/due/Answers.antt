use Rattle.std.proofs.Common.{◌≡◌, subst}
use Rattle.update_coordinator.specs.Controls.{Control}
use Rattle.workload_gen.specs.Draws.{due}
use Rattle.workload_gen.proofs.Enabled.{told-due}
use Rattle.workload_gen.proofs.counting.due.Goals as goal

pub returns : goal.returns
returns c = subst (λ (d : Control). c.leaving.result ≡ due d) c.coordinator.ensures (told-due c.coordinator.result.now c.leaving.result c.leaving.ensures.some c.leaving.ensures.only)
