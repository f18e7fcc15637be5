use Rattle.world_journal.proofs.Marks.{all-came}
use Rattle.world_journal.proofs.run.Run.all_came.Goals as goal

pub returns : goal.returns
returns g c = rw (← c.self.view_is) (all-came g.L.RunName.lines c.self.inside.arrived.items c.self.inside.held.world c.self.inside.left c.self.invariant.1 c.self.invariant.2)
