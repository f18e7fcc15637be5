-- What every world keeps of its tables and of what it plans.
use Rattle.std.proofs.Common.{◌≡◌, ℕ, ◌<◌, List, length, sym, ◌∙◌, ap, subst, Option, Some, IsSomeAnd, slice_get, Result, Ok, Err, IfOk}
use Rattle.std.proofs.lemmas.List.{length-map}
use Rattle.nk_values.specs.declared.row.Row.{Row}
use Rattle.nk_values.specs.Fitting.{IsWritable}
use Rattle.nk_values.specs.Members.{IsIn}
use Rattle.nk_values.specs.Tables.{Distinct}
use Rattle.topology_model.specs.declared.line.DeclaredSwitch.{DeclaredSwitch}
use Rattle.openflow_wire.specs.declared.message.Message.{Message}
use Rattle.switch_model.specs.Switches.{SwitchValue}
use Rattle.flow_audit.specs.declared.verdict.Verdict.{Verdict}
use Rattle.flow_audit.specs.Reports.{all_rows}
use Rattle.flow_audit.specs.Verdicts.{IsVerdict}
use Rattle.flow_audit.proofs.CompareLaws.{verdict-moves}
use Rattle.update_coordinator.specs.Batches.{planned}
use Rattle.update_laws.specs.Updates.{spot}
use Rattle.update_laws.specs.Fleets.{WiredSwitch}
use Rattle.update_laws.proofs.Chosen.{belongs}
use Rattle.update_laws.proofs.Places.{get-map, get-some}
use Rattle.update_laws.proofs.Wiring.{get-mapped}
use Rattle.world_core.specs.Worlds.{WorldValue, setting, IsKept}
use Rattle.world_core.proofs.Kept.{line-at, set}
use Rattle.table_audit.specs.Audits.{IsAuditAt}
use Rattle.table_audit.specs.Reports.{AreReportOf}
use Rattle.table_audit.proofs.Parts.{writable-rows}
use Rattle.table_audit.proofs.Draining.{planned-is, plan-distinct}

-- each row of a table can be written
pub rows-writable : (w : WorldValue) → IsKept w → (place : ℕ) (e : WiredSwitch) → slice_get w.fleet.wired place ≡ Some e → (r : Row) → IsIn e.switch.table.rows r → IsWritable r
unfolding IsKept
rows-writable w k place e here r m =
    let l = line-at w k place e here in
    let b = belongs (setting w) (set w k) w.fleet.control.swept w.fleet.control.phase k.fleet.within e.switch.sw _ e.switch.table.rows l.2.table.changing r m in
    writable-rows w.topology w.versions w.overlap k.versions b.version (spot e.switch.sw b.pt) r b.held

-- no two rows that are planned for a switch have one key
pub planned-distinct : (w : WorldValue) → IsKept w → (sw : ℕ) → Distinct (planned w.fleet.control.versions w.fleet.control.swept w.fleet.control.phase sw)
unfolding IsKept
planned-distinct w k sw =
    subst (λ (rs : List Row). Distinct rs) (sym ((λ i. planned (k.rows i) w.fleet.control.swept w.fleet.control.phase sw) ∙ planned-is (setting w) w.versions w.fleet.control.swept w.fleet.control.phase k.fleet.within sw))
    (plan-distinct w.topology w.versions w.limit w.capacity w.overlap k.topology k.versions w.fleet.control.swept w.fleet.control.phase k.fleet.within sw)

-- the switch at a place, as it is lent, and its number
pub record Stands (w : WorldValue) (place : ℕ) (lent : SwitchValue) : Type 0 where
  pub site : DeclaredSwitch
  pub named : slice_get w.topology.switches place ≡ Some site
  pub end_ : WiredSwitch
  pub here : slice_get w.fleet.wired place ≡ Some end_
  pub number : end_.switch.sw ≡ site.sw
  pub is : lent ≡ end_.switch

held : {X : Type 0} (P : X → Type 0) (o : Option X) (x : X) → o ≡ Some x → IsSomeAnd o P → P x
held {X} P o x e h = subst (λ (p : Option X). IsSomeAnd p P) e h

pub stands : (w : WorldValue) → IsKept w → (place : ℕ) → place < length w.topology.switches → (lent : SwitchValue) → IsSomeAnd (slice_get w.fleet.wired place) (λ e. lent ≡ e.switch) → Stands w place lent
unfolding IsKept
stands w k place within lent h =
    let s = get-some place w.topology.switches within in
    let e = get-map (λ (x : WiredSwitch). x.switch.sw) place w.fleet.wired s.0.sw (ap (λ (ns : List ℕ). slice_get ns place) k.places ∙ get-mapped (λ (x : DeclaredSwitch). x.sw) place w.topology.switches s.0 s.1) in
    record { site = s.0; named = s.1; end_ = e.0; here = e.1; number = e.2; is = held (λ x. lent ≡ x.switch) (slice_get w.fleet.wired place) e.0 e.1 h }

pub lent-writable : (w : WorldValue) → IsKept w → (place : ℕ) (lent : SwitchValue) → Stands w place lent → (r : Row) → IsIn lent.table.rows r → IsWritable r
lent-writable w k place lent s r m = rows-writable w k place s.end_ s.here r (subst (λ (x : SwitchValue). IsIn x.table.rows r) s.is m)

-- the verdict on what it reports
pub audit-at : {E : Type 0} (w : WorldValue) (place : ℕ) (lent : SwitchValue) (s : Stands w place lent) (sw : ℕ) (plan : List Row) (told reported : List Message) (r : Result Verdict E) → sw ≡ s.site.sw → plan ≡ planned w.fleet.control.versions w.fleet.control.swept w.fleet.control.phase sw →
    AreReportOf lent.table.rows reported → told ≡ reported → IfOk r (λ v. IsVerdict plan (all_rows told) v) → IfOk r (λ v. IsAuditAt w place v)
audit-at w place lent s sw plan told reported (Ok v) number is report same h = record {
  site = s.site;
  named = s.named;
  end_ = s.end_;
  here = s.here;
  verdict = subst (λ (x : SwitchValue). IsVerdict (planned w.fleet.control.versions w.fleet.control.swept w.fleet.control.phase s.site.sw) x.table.rows v) s.is
      (subst (λ (n : ℕ). IsVerdict (planned w.fleet.control.versions w.fleet.control.swept w.fleet.control.phase n) lent.table.rows v) number
      (subst (λ (rs : List Row). IsVerdict rs lent.table.rows v) is
      (verdict-moves plan (all_rows reported) plan lent.table.rows v (record { front = λ r m. m; back = λ r m. m }) (record { front = report.same.back; back = report.same.front })
      (subst (λ (ms : List Message). IsVerdict plan (all_rows ms) v) same h))));
}
audit-at w place lent s sw plan told reported (Err e) number is report same h = tt

pub as-many : (w : WorldValue) → IsKept w → length w.fleet.wired ≡ length w.topology.switches
unfolding IsKept
as-many w k = sym (length-map w.fleet.wired (λ (e : WiredSwitch). e.switch.sw)) ∙ ap (λ (ns : List ℕ). length ns) k.places ∙ length-map w.topology.switches (λ (s : DeclaredSwitch). s.sw)
