use Rattle.std.proofs.Common.{rules, refl}
use Rattle.thread_commands.proofs.document_run.DocumentRun.watched.Goals as goal

pub returns : goal.returns
returns c = record {
  report = c.in_ok-report.report;
  is = search rules;
  status = refl;
  text = search rules;
}
