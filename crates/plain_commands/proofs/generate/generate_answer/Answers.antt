use Rattle.std.proofs.Common.{refl}
use Rattle.plain_commands.proofs.generate.generate_answer.Goals as goal

pub returns-clause-answer : goal.returns-clause-answer
returns-clause-answer c =
    let driven = c.in_ok-driven.driven in record {
      status_is = refl;
      workload = record {
        packets = driven.packets;
        world = driven.world;
        events = driven.events.items;
        run = c.in_ok-driven.ensures;
        text_is = c.in_ok-text.ensures;
      };
    }
