use Rattle.topology_model.proofs.Ranges.{link_ends}
use Rattle.topology_model.proofs.Rows.{link_sum}
use Rattle.topology_model.proofs.topology.Topology.link_term.Goals as goal

pub going-requires-clause-from : goal.going-requires-clause-from
going-requires-clause-from c = (link_ends c.self.inside.draft c.links-a-items.result.now c.loop-a.a-index c.self.invariant.topology.sound c.links-a-items.ensures c.loop-a-test.true).0

pub going-requires-clause-to : goal.going-requires-clause-to
going-requires-clause-to c = (link_ends c.self.inside.draft c.links-a-items.result.now c.loop-a.a-index c.self.invariant.topology.sound c.links-a-items.ensures c.loop-a-test.true).1

pub going-requires-in-loop-a-clause-from : goal.going-requires-in-loop-a-clause-from
going-requires-in-loop-a-clause-from c = (link_ends c.self.inside.draft c.links-a-items.result.now c.loop-a.a-index c.self.invariant.topology.sound c.links-a-items.ensures c.loop-a-test.true).1

pub going-requires-in-loop-a-clause-to : goal.going-requires-in-loop-a-clause-to
going-requires-in-loop-a-clause-to c = (link_ends c.self.inside.draft c.links-a-items.result.now c.loop-a.a-index c.self.invariant.topology.sound c.links-a-items.ensures c.loop-a-test.true).0

pub returns : goal.returns
returns c = rw (← c.self.view_is) (link_sum c.loop-a.items c.self.inside.draft c.links-a-items.result.now c.loop-a.a-index c.loop-a.invariant c.loop-a-test.false c.links-a-items.ensures)
