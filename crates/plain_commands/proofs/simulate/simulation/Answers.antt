use Rattle.std.proofs.Common.{refl}
use Rattle.plain_commands.proofs.simulate.simulation.Goals as goal

pub returns-clause-answer : goal.returns-clause-answer
returns-clause-answer c =
    let told = c.in_ok-answer.ensures in
    record {
      halts = _;
      status = told.status;
      simulation = record { events = c.in_ok-outcome.outcome.events.items; world = c.in_ok-outcome.outcome.world; outcome = c.in_ok-outcome.ensures.outcome; ends = refl; text_is = told.report };
    }
