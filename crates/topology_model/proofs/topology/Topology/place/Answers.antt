use Rattle.std.proofs.Common.{◌==◌, sym, ap, ◌∙◌, is_some}
use Rattle.topology_model.proofs.Positions.{is_some-position, named_if}
use Rattle.topology_model.proofs.topology.Topology.place.Goals as goal

pub returns-clause-declared : goal.returns-clause-declared
returns-clause-declared c =
    let e = ap is_some c.place.ensures ∙ is_some-position (λ s. s.sw == c.args.sw) c.self.inside.draft.switches in
    rw (← c.self.view_is) ((λ h. sym e ∙ h), (λ h. e ∙ h))

pub returns-clause-named : goal.returns-clause-named
returns-clause-named c = rw (← c.self.view_is) (named_if c.self.inside.draft.switches c.args.sw c.place.result c.place.ensures)
