use Rattle.std.proofs.Common.{◌≡◌, ◌∙◌, List, IfOk, ap, subst}
use Rattle.nk_values.specs.declared.row.Row.{Row}
use Rattle.nk_values.specs.declared.rows.Rows.{Rows}
use Rattle.update_coordinator.specs.Batches.{planned}
use Rattle.update_coordinator.proofs.Draining.{planned_alone}
use Rattle.update_coordinator.proofs.coordinator.Coordinator.planned.Goals as goal

pub returns-clause-alone : goal.returns-clause-alone
returns-clause-alone c =
    let old = c.self.inside in
    rw (← c.self.view_is) (λ e. subst (λ (rs : List Row). IfOk c.planned_in.result (λ v. v.items ≡ rs))
    (ap (λ (vs : List Rows). planned vs old.swept old.phase c.args.sw) c.deref.ensures.value ∙ planned_alone old.overlap old.versions.items old.swept old.phase c.args.sw c.self.invariant.0.suits e) c.planned_in.ensures)
