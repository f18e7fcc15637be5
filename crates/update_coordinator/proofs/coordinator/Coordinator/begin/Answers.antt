use Rattle.std.proofs.Common.{◌<◌, ◌≤◌, ◌+◌, length, sym, subst, arith}
use Rattle.update_coordinator.specs.Counts.{comes_to, behind}
use Rattle.update_coordinator.specs.Kept.{Suits}
use Rattle.update_coordinator.specs.Phases.{swept_after}
use Rattle.update_coordinator.specs.declared.phase.Phase.{Phase}
use Rattle.update_coordinator.specs.declared.phase.Phase.TheVariants.{Install}
use Rattle.update_coordinator.proofs.Counting.{begun_cost}
use Rattle.update_coordinator.proofs.Draining.{begun_suits}
use Rattle.update_coordinator.proofs.coordinator.Coordinator.begin.Goals as goal

pub enter-requires-clause-counted : goal.enter-requires-clause-counted
enter-requires-clause-counted c =
    let old = c.self.inside in
    let lt : c.in-Idle.policy < length old.versions.items = omega (arith, c.if-policy-len.false, c.len.ensures, old.versions.ok) in
    rw (← c.self.view_is) (λ sw. subst (λ (p : Phase). comes_to old.versions.items (swept_after p old.swept) (Install (c.in-Idle.policy + 1)) sw ≤ behind old.versions.items old.swept p sw) (sym c.in-Idle.is) (begun_cost old.versions.items old.swept c.in-Idle.policy sw lt))

pub enter-requires-clause-suits : goal.enter-requires-clause-suits
enter-requires-clause-suits c =
    let old = c.self.inside in
    rw (← c.self.view_is) (subst (λ (p : Phase). Suits old.overlap old.versions.items (swept_after p old.swept) (Install (c.in-Idle.policy + 1))) (sym c.in-Idle.is)
    (begun_suits old.overlap old.versions.items old.swept c.in-Idle.policy (subst (λ (p : Phase). Suits old.overlap old.versions.items old.swept p) c.in-Idle.is c.self.invariant.0.suits)))
