use Rattle.run_laws.proofs.Failing.{only-refused}
use Rattle.run_laws.proofs.Halting.{halts-exactly, halts-tell}
use Rattle.run_laws.proofs.laws.halts_tell.Goals as goal

pub returns : goal.returns
returns c = record {
  exactly = halts-exactly c.losses_count.ensures.halts;
  runs = halts-tell c.halts_stay.ensures c.losses_count.ensures.halts;
  refused = only-refused c.has_room.ensures;
}
