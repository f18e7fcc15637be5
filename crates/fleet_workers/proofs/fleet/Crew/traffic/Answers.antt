use Rattle.std.proofs.Common.{sym}
use Rattle.world_journal.specs.Journals.{switches}
use Rattle.world_journal.proofs.Roles.{traffic-role}
use Rattle.fleet_workers.proofs.fleet.Crew.traffic.Goals as goal

pub split_off-requires-clause-does : goal.split_off-requires-clause-does
split_off-requires-clause-does g c = sym (traffic-role (switches g.L.RunName.start) c.args.worker c.requires.worker)
