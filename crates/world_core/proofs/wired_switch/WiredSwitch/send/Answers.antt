use Rattle.std.proofs.Common.{All, Option, IfSome, sym, subst}
use Rattle.std.proofs.lemmas.List.Elements.{All-push}
use Rattle.openflow_wire.specs.declared.message.Message.{Message}
use Rattle.openflow_wire.specs.Writing.{Fits}
use Rattle.world_core.proofs.wired_switch.WiredSwitch.send.Goals as goal

pub invariant_of-self-in-Some : goal.invariant_of-self-in-Some
invariant_of-self-in-Some c = (
  subst (All Fits) (sym c.push_back_reserved.ensures.items) (All-push Fits _ _ (subst (All Fits) (sym c.reserve.ensures.items) c.self.invariant.0) (subst (λ (a : Option Message). IfSome a Fits) c.in-Some.is c.in_ok-message.ensures.fits)),
  c.self.invariant.1,
)
