use Rattle.std.proofs.Common.{◌≡◌, ◌∙◌, ◌≤◌, ◌+◌, ℕ, Some, option_map, sym, ap, subst}
use Rattle.update_coordinator.specs.Calls.{leaving}
use Rattle.update_coordinator.specs.Controls.{Control}
use Rattle.update_coordinator.specs.Counts.{comes_to, behind}
use Rattle.update_coordinator.specs.Phases.{swept_after}
use Rattle.update_coordinator.specs.declared.phase.Phase.{Phase}
use Rattle.update_coordinator.specs.declared.phase.Phase.TheVariants.{Idle, Sweep}
use Rattle.update_coordinator.proofs.Counting.{swept_cost}
use Rattle.update_coordinator.proofs.Draining.{stamped}
use Rattle.update_coordinator.proofs.coordinator.Coordinator.drained.Goals as goal

pub enter-requires-in-Idle-clause-counted : goal.enter-requires-in-Idle-clause-counted
enter-requires-in-Idle-clause-counted c =
    let old = c.self.inside in
    let i = c.in-Idle.policy in
    let known = stamped (option_map (λ v. v.now) c.leaving_in-known.result) c.args.stamp (sym c.is_stamp.ensures ∙ c.if-not-is_stamp.false) in
    let is : leaving old.overlap old.swept (Idle i) old.versions.items ≡ Some known.0 =
    (λ j. leaving old.overlap old.swept (sym c.in-Idle.is j) (sym c.deref.ensures.value j)) ∙ sym c.leaving_in-known.ensures ∙ known.1 in
    let same : old.swept ≡ c.enter-in-Idle.inside.swept = ap (λ (v : Control). v.swept) (c.self.view_is ∙ sym c.enter-in-Idle.view_is) in
    rw (← c.self.view_is) (λ sw. subst (λ (n : ℕ). comes_to old.versions.items (swept_after old.phase old.swept) (Sweep i (n + 1)) sw ≤ behind old.versions.items old.swept old.phase sw) same
    (subst (λ (p : Phase). comes_to old.versions.items (swept_after p old.swept) (Sweep i (old.swept + 1)) sw ≤ behind old.versions.items old.swept p sw) (sym c.in-Idle.is) (swept_cost old.overlap old.versions.items old.swept i sw known.0 is)))
