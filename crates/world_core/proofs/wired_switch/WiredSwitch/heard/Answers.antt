use Rattle.std.proofs.Common.{All, sym, subst}
use Rattle.std.proofs.lemmas.List.Elements.{All-drop}
use Rattle.openflow_wire.specs.Writing.{Fits}
use Rattle.world_core.proofs.wired_switch.WiredSwitch.heard.Goals as goal

pub invariant_of-self : goal.invariant_of-self
invariant_of-self c = (c.self.invariant.0, subst (All Fits) (sym c.pop_front.ensures.rest) (All-drop Fits 1 _ c.self.invariant.1))
