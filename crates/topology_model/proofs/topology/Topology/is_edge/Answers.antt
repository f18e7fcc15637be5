use Rattle.std.proofs.Common.{sym, ◌∙◌}
use Rattle.topology_model.specs.Layouts.{location_of}
use Rattle.topology_model.proofs.Ranges.{edge_test, test_edge}
use Rattle.topology_model.proofs.Ranges.{wired}
use Rattle.topology_model.proofs.topology.Topology.is_edge.Goals as goal

pub returns-clause-edge : goal.returns-clause-edge
returns-clause-edge c =
    let a = location_of (c.args.sw, c.args.pt) in
    rw (← c.self.view_is) ((λ e. test_edge c.self.inside.draft a (sym c.is_edge.ensures ∙ e)), (λ m. c.is_edge.ensures ∙ edge_test c.self.inside.draft a m))

pub returns-clause-wiring : goal.returns-clause-wiring
returns-clause-wiring c = rw (← c.self.view_is) (wired c.self.inside.draft c.self.invariant.topology.sound)
