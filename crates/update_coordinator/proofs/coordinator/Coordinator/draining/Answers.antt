use Rattle.std.proofs.Common.{◌∙◌, ℕ, List, map, ap}
use Rattle.nk_values.specs.declared.rows.Rows.{Rows}
use Rattle.update_coordinator.specs.Batches.{draining_in}
use Rattle.update_coordinator.proofs.Draining.{map_draining, none_drains}
use Rattle.update_coordinator.proofs.coordinator.Coordinator.draining.Goals as goal

pub returns-clause-none : goal.returns-clause-none
returns-clause-none c =
    let old = c.self.inside in
    rw (← c.self.view_is) (λ e. c.draining_in.ensures ∙ ap (λ (xs : List ℕ). draining_in xs old.swept old.phase) (c.deref.ensures.value ∙ c.self.invariant.1.stamps)
    ∙ map_draining (λ (v : Rows). v.stamp) old.versions.items old.swept old.phase ∙ ap (map (λ (v : Rows). v.stamp)) (none_drains old.overlap old.versions.items old.swept old.phase c.self.invariant.0.suits e))
