use Rattle.topology_model.proofs.Ranges.{wired}
use Rattle.topology_model.proofs.topology.Topology.links.Goals as goal

pub returns-clause-wiring : goal.returns-clause-wiring
returns-clause-wiring c = rw (← c.self.view_is) (wired c.self.inside.draft c.self.invariant.topology.sound)
