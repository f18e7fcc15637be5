use Rattle.std.proofs.Common.{◌≡◌, ◌↔◌, IsTrue, None, subst}
use Rattle.update_coordinator.specs.Calls.{begin_refusal}
use Rattle.update_coordinator.specs.Controls.{Control}
use Rattle.workload_gen.proofs.counting.begins.Goals as goal

pub returns : goal.returns
returns c = subst (λ (d : Control). IsTrue c.may_begin.result ↔ (begin_refusal d ≡ None)) c.coordinator.ensures c.may_begin.ensures
