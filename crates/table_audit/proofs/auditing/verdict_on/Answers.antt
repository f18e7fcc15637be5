use Rattle.std.proofs.Common.{subst}
use Rattle.flow_audit.specs.declared.verdict.AuditError.{AuditError}
use Rattle.flow_audit.specs.Verdicts.{IsRefusal}
use Rattle.table_audit.proofs.Reports.{no-fault}
use Rattle.table_audit.proofs.auditing.verdict_on.Goals as goal

pub unreachable-requires : goal.unreachable-requires
unreachable-requires c =
    let report = c.args.report.now in
    no-fault report c.requires.reported c.in-Err-Fault.field-0-0 (subst (λ (e : AuditError). IsRefusal report e) c.in-Err-Fault.field-0-is c.in-Err-Fault.ensures.refused)
