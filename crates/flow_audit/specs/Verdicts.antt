-- How reported rows differ from planned ones.
use Rattle.std.specs.Prelude.{◌≡◌, ◌≢◌, ◌⊎◌, List, [], ◌∷◌}
use Rattle.std.specs.declared.cmp.Ordering.TheVariants.{Less, Greater}
use Rattle.nk_values.specs.declared.row.Row.{Row}
use Rattle.nk_values.specs.Members.{IsIn, SameMembers}
use Rattle.nk_values.specs.Tables.{SameKey, IsNew, Distinct}
use Rattle.openflow_wire.specs.KeyOrder.{key_cmp}
use Rattle.openflow_wire.specs.declared.message.Message.{Message}
use Rattle.flow_audit.specs.declared.verdict.Verdict.{Verdict}
use Rattle.flow_audit.specs.declared.verdict.Verdict.TheVariants.{Same, Missing, Surplus, Actions}
use Rattle.flow_audit.specs.declared.verdict.AuditFault.{AuditFault}
use Rattle.flow_audit.specs.declared.verdict.AuditFault.TheVariants.{NotFlows, Unfinished, Twice}
use Rattle.flow_audit.specs.declared.verdict.AuditError.{AuditError}
use Rattle.flow_audit.specs.declared.verdict.AuditError.TheVariants.{Fault, Memory}
use Rattle.flow_audit.specs.Reports.{AreReports, IsWhole, all_rows}
use Rattle.openflow_wire.specs.KeyOrder.{IsRepeated}

-- of rows with lesser keys than this one's both have the same
pub record AgreeBefore (planned reported : List Row) (r : Row) : Type 0 where
  pub planned_are : (s : Row) → key_cmp s r ≡ Less → IsIn planned s → IsIn reported s
  pub reported_are : (s : Row) → key_cmp s r ≡ Less → IsIn reported s → IsIn planned s

pub record IsMissing (planned reported : List Row) (r : Row) : Type 0 where
  pub among : IsIn planned r
  pub lacking : IsNew reported r.pattern r.priority
  pub least : AgreeBefore planned reported r

pub record IsSurplus (planned reported : List Row) (r : Row) : Type 0 where
  pub among : IsIn reported r
  pub lacking : IsNew planned r.pattern r.priority
  pub least : AgreeBefore planned reported r

pub record AreOther (planned reported : List Row) (p q : Row) : Type 0 where
  pub among_planned : IsIn planned p
  pub among_reported : IsIn reported q
  pub one_key : SameKey q p.pattern p.priority
  pub other : p.actions ≢ q.actions
  pub least : AgreeBefore planned reported p

-- what the verdict says
abbrev pub IsVerdict : List Row → List Row → Verdict → Type 0
IsVerdict planned reported Same = SameMembers planned reported
IsVerdict planned reported (Missing r) = IsMissing planned reported r
IsVerdict planned reported (Surplus r) = IsSurplus planned reported r
IsVerdict planned reported (Actions p q) = AreOther planned reported p q

-- the messages are a report, whose rows have keys of their own
pub record IsReported (messages : List Message) : Type 0 where
  pub reports : AreReports messages
  pub whole : IsWhole messages
  pub distinct : Distinct (all_rows messages)

-- the first fault, in this order
abbrev pub IsAuditFault : List Message → AuditFault → Type 0
IsAuditFault messages NotFlows = ¬ AreReports messages
IsAuditFault messages Unfinished = AreReports messages × ¬ IsWhole messages
IsAuditFault messages (Twice r) = AreReports messages × IsWhole messages × IsRepeated (all_rows messages) r

abbrev pub IsRefusal : List Message → AuditError → Type 0
IsRefusal messages (Fault f) = IsAuditFault messages f
IsRefusal messages Memory = Unit {0}

-- ---- how rising rows are compared

-- the first two rows tell the verdict
abbrev pub Differ : Row → Row → Verdict → Type 0
Differ p q v =
    ((key_cmp p q ≡ Less) × (v ≡ Missing p))
    ⊎ (((key_cmp p q ≡ Greater) × (v ≡ Surplus q))
    ⊎ (SameKey q p.pattern p.priority × (p.actions ≢ q.actions) × (v ≡ Actions p q)))

abbrev pub AreCompared : List Row → List Row → Verdict → Type 0
AreCompared [] [] v = v ≡ Same
AreCompared [] (q ∷ qs) v = v ≡ Surplus q
AreCompared (p ∷ ps) [] v = v ≡ Missing p
AreCompared (p ∷ ps) (q ∷ qs) v = Differ p q v ⊎ ((p ≡ q) × AreCompared ps qs v)
