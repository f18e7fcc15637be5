use Rattle.std.proofs.Common.{All, Option, IfSome, sym, subst}
use Rattle.std.proofs.lemmas.List.Elements.{All-drop, All-push}
use Rattle.openflow_wire.specs.declared.message.Message.{Message}
use Rattle.openflow_wire.specs.Writing.{Fits}
use Rattle.world_core.proofs.wired_switch.WiredSwitch.take.Goals as goal

pub invariant_of-self-in-Ok-None : goal.invariant_of-self-in-Ok-None
invariant_of-self-in-Ok-None c = (subst (All Fits) (sym c.pop_front.ensures.rest) (All-drop Fits 1 _ c.self.invariant.0), subst (All Fits) (sym c.reserve.ensures.items) c.self.invariant.1)

pub invariant_of-self-in-Ok-Some : goal.invariant_of-self-in-Ok-Some
invariant_of-self-in-Ok-Some c = (
  subst (All Fits) (sym c.pop_front.ensures.rest) (All-drop Fits 1 _ c.self.invariant.0),
  subst (All Fits) (sym c.push_back_reserved.ensures.items) (All-push Fits _ _ (subst (All Fits) (sym c.reserve.ensures.items) c.self.invariant.1)
      (subst (λ (a : Option Message). IfSome a Fits) c.in-Ok-Some.field-0-is c.in-Ok-Some.ensures.fits)),
)
