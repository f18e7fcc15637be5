use Rattle.std.proofs.Common.{string_bytes}
use Rattle.audit_command.specs.Audit.{HasAudits}
use Rattle.audit_command.proofs.audit.put_audits.Given as goal

abbrev pub invariant-loop-place : goal.invariant-loop-place
invariant-loop-place l = HasAudits l.world l.place (string_bytes l.fn.out) (string_bytes l.out)
