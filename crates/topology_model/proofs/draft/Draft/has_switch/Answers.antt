use Rattle.std.proofs.Common.{◌==◌, ap, ◌∙◌, is_some}
use Rattle.topology_model.proofs.Positions.{is_some-position}
use Rattle.topology_model.proofs.draft.Draft.has_switch.Goals as goal

pub returns : goal.returns
returns c = rw (← c.self.view_is) (c.contains_key.ensures ∙ ap is_some (c.self.invariant.places c.args.sw) ∙ is_some-position (λ s. s.sw == c.args.sw) c.self.inside.switches.items)
