use Rattle.std.proofs.Common.{◌<◌, ℕ, List, sym, ◌∙◌, ap, subst, get_or}
use Rattle.std.proofs.lemmas.Option.{get_or_from_slice_get}
use Rattle.nk_values.specs.declared.row.Row.{Row}
use Rattle.nk_values.specs.Tables.{Distinct}
use Rattle.topology_model.specs.declared.line.DeclaredSwitch.{DeclaredSwitch}
use Rattle.topology_model.specs.Layouts.{Layout}
use Rattle.update_coordinator.specs.Batches.{planned}
use Rattle.update_coordinator.specs.Controls.{Control}
use Rattle.table_audit.proofs.Kept.{as-many, stands, lent-writable, planned-distinct, audit-at}
use Rattle.table_audit.proofs.auditing.audit_switch.Goals as goal

pub switch-requires : goal.switch-requires
switch-requires c = subst (λ (n : ℕ). c.args.place < n) (sym (as-many c.args.world.now c.kept.ensures)) c.requires

pub row_report-requires : goal.row_report-requires
row_report-requires c =
    let w = c.args.world.now in
    lent-writable w c.kept.ensures c.args.place c.switch.result.now (stands w c.kept.ensures c.args.place c.requires c.switch.result.now c.switch.ensures)

pub verdict_on-requires-clause-distinct : goal.verdict_on-requires-clause-distinct
verdict_on-requires-clause-distinct c =
    let w = c.args.world.now in
    let sw = (get_or c.switches.result.now c.args.place c.index-switches-place.result).sw in
    let is = c.deref.ensures.value ∙ (c.in_ok-planned.ensures.rows ∙ ap (λ (k : Control). planned k.versions k.swept k.phase sw) c.coordinator.ensures) in
    subst (λ (rs : List Row). Distinct rs) (sym is) (planned-distinct w c.kept.ensures sw)

pub returns : goal.returns
returns c =
    let w = c.args.world.now in
    let s = stands w c.kept.ensures c.args.place c.requires c.switch.result.now c.switch.ensures in
    let site = c.index-switches-place.result in
    let sites = c.switches.ensures.switches ∙ ap (λ (t : Layout). t.switches) c.topology.ensures in
    let here = ap (λ (xs : List DeclaredSwitch). get_or xs c.args.place site) sites ∙ get_or_from_slice_get w.topology.switches c.args.place s.site site s.named in
    let sw = (get_or c.switches.result.now c.args.place site).sw in
    let is = c.deref.ensures.value ∙ (c.in_ok-planned.ensures.rows ∙ ap (λ (k : Control). planned k.versions k.swept k.phase sw) c.coordinator.ensures) in
    audit-at w c.args.place c.switch.result.now s sw c.deref.result.now c.deref-2.result.now c.in_ok-report.report.items c.verdict_on.result (ap (λ (x : DeclaredSwitch). x.sw) here) is c.in_ok-report.ensures c.deref-2.ensures.value c.verdict_on.ensures
