use Rattle.std.proofs.Common.{ap, ◌∙◌, map}
use Rattle.topology_model.specs.Layouts.{location_of}
use Rattle.topology_model.proofs.Ranges.{edge_end}
use Rattle.topology_model.proofs.Rows.{edge_sum}
use Rattle.topology_model.proofs.topology.Topology.enter_term.Goals as goal

pub standing_at-requires : goal.standing_at-requires
standing_at-requires c =
    edge_end c.self.inside.draft c.deref-end-items.result.now c.loop-end.end-index c.self.invariant.topology.sound (ap (map location_of) c.deref-end-items.ensures.value ∙ c.self.invariant.edges) c.loop-end-test.true

pub returns : goal.returns
returns c =
    rw (← c.self.view_is) (edge_sum c.loop-end.items c.self.inside.draft c.deref-end-items.result.now c.loop-end.end-index c.loop-end.invariant c.loop-end-test.false
    (ap (map location_of) c.deref-end-items.ensures.value ∙ c.self.invariant.edges))
