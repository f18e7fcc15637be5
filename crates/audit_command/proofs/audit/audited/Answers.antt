use Rattle.std.proofs.Common.{refl}
use Rattle.audit_command.proofs.audit.audited.Goals as goal

pub returns-clause-answer : goal.returns-clause-answer
returns-clause-answer c =
    let told = c.in_ok-answer.ensures in
    record {
      halts = _;
      status = told.status;
      audit = record {
        events = c.in_ok-outcome.outcome.events.items;
        world = c.in_ok-outcome.outcome.world;
        outcome = c.in_ok-outcome.ensures.outcome;
        ends = refl;
        report = told.report;
        report_is = told.report_is;
        text_is = told.text_is;
      };
    }
