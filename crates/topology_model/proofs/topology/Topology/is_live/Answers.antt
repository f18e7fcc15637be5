use Rattle.std.proofs.Common.{sym, ◌∙◌}
use Rattle.topology_model.specs.Layouts.{location_of}
use Rattle.topology_model.proofs.Linking.{declared}
use Rattle.topology_model.proofs.Ranges.{has}
use Rattle.topology_model.proofs.topology.Topology.is_live.Goals as goal

pub returns-clause-declared : goal.returns-clause-declared
returns-clause-declared c =
    let a = location_of (c.args.sw, c.args.pt) in
    let t = c.self.inside.draft in
    rw (← c.self.view_is) ((λ e. declared t.switches t.links a (sym c.has_port.ensures ∙ e)), (λ d. c.has_port.ensures ∙ has t.switches d.site a d.among d.switch d.port))
