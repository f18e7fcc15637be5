-- Audits of the switches of a world.
use Rattle.std.specs.Prelude.{◌≡◌, ℕ, slice_get, Some}
use Rattle.topology_model.specs.declared.line.DeclaredSwitch.{DeclaredSwitch}
use Rattle.flow_audit.specs.declared.verdict.Verdict.{Verdict}
use Rattle.flow_audit.specs.Verdicts.{IsVerdict}
use Rattle.update_coordinator.specs.Batches.{planned}
use Rattle.update_laws.specs.Fleets.{WiredSwitch}
use Rattle.world_core.specs.Worlds.{WorldValue}

-- the verdict on the table of the switch at a place, against the rows that the phase gives the switch of that number
pub record IsAuditAt (w : WorldValue) (place : ℕ) (v : Verdict) : Type 0 where
  pub site : DeclaredSwitch
  pub named : slice_get w.topology.switches place ≡ Some site
  pub end_ : WiredSwitch
  pub here : slice_get w.fleet.wired place ≡ Some end_
  pub verdict : IsVerdict (planned w.fleet.control.versions w.fleet.control.swept w.fleet.control.phase site.sw)
      end_.switch.table.rows v
