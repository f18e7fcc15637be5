use Rattle.audit_command.proofs.audit.audits_answer.Goals as goal

pub returns : goal.returns
returns c = record { status = c.in_ok-answer.ensures.status; report = c.in_ok-answer.answer.text; report_is = c.in_ok-answer.ensures.report; text_is = c.in_ok-text.ensures }
