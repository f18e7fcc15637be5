use Rattle.world_journal.specs.Journals.{switches}
use Rattle.fleet_workers.proofs.Naming.{place-named}
use Rattle.fleet_workers.proofs.worker.run_worker.Goals as goal

pub work-requires-clause-seat : goal.work-requires-clause-seat
work-requires-clause-seat g c = (c.requires.seat, place-named (switches g.L.RunName.start) c.args.seat.worker (g.E.Link.named c.args.end) c.requires.seat.0 c.requires.named)
