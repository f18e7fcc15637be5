use Rattle.std.proofs.Common.{sym, ◌∙◌}
use Rattle.topology_model.specs.Layouts.{location_of}
use Rattle.topology_model.proofs.Wires.{joins}
use Rattle.topology_model.proofs.Ranges.{wired}
use Rattle.topology_model.proofs.topology.Topology.far_end.Goals as goal

pub returns-clause-joined : goal.returns-clause-joined
returns-clause-joined c = λ b.
    rw (← c.self.view_is) (let j = joins c.self.inside.draft c.self.invariant.topology.sound (location_of (c.args.sw, c.args.pt)) b in (λ e. j.0 (sym c.far_end.ensures ∙ e), λ m. c.far_end.ensures ∙ j.1 m))

pub returns-clause-wiring : goal.returns-clause-wiring
returns-clause-wiring c = rw (← c.self.view_is) (wired c.self.inside.draft c.self.invariant.topology.sound)
