use Rattle.world_core.proofs.world.World.kept.Goals as goal

pub returns : goal.returns
returns c = rw (← c.self.view_is) c.self.invariant
