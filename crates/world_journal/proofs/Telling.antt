-- Which events tell a message, and at which side of a switch.
use Rattle.std.proofs.Common.{◌≡◌, ℕ, false, List, Option, None, Some, refl, sym, ap}
use Rattle.update_coordinator.specs.declared.cause.Side.TheVariants as side
use Rattle.world_core.specs.declared.event.Event.{Event}
use Rattle.world_core.specs.declared.event.Event.TheVariants as event
use Rattle.world_core.specs.declared.event.ControllerEvent.TheVariants as of_controller
use Rattle.world_core.specs.declared.event.PacketEvent.TheVariants as of_packet
use Rattle.world_core.specs.declared.event.SwitchEvent.TheVariants as of_switch
use Rattle.world_journal.specs.declared.entry.Entry.{Entry}
use Rattle.world_journal.specs.Journals.{MetBy, is_told, told_at}

some-is : {X : Type 0} (x y : X) → Some x ≡ Some y → x ≡ y
some-is x y e = cc

pub tells-none-to : (e : Event) → told_at e ≡ None → (s : ℕ) → is_told s side.Controller e ≡ false
tells-none-to (event.Controller (of_controller.Heard t)) none s = cc
tells-none-to (event.Controller of_controller.Begin) none s = refl
tells-none-to (event.Controller (of_controller.Send t)) none s = refl
tells-none-to (event.Switch (of_switch.Take t)) none s = refl
tells-none-to (event.Switch (of_switch.Apply t k)) none s = refl
tells-none-to (event.Switch (of_switch.Reply t)) none s = refl
tells-none-to (event.Packet (of_packet.Arrive pk tag)) none s = refl
tells-none-to (event.Packet (of_packet.Hop k)) none s = refl
tells-none-to (event.Controller (of_controller.Drained stamp)) none s = refl
tells-none-to (event.Controller (of_controller.Lost t)) none s = refl
tells-none-to (event.Controller (of_controller.Rejoin t)) none s = refl
tells-none-to (event.Packet (of_packet.Stuck k)) none s = refl
tells-none-to (event.Foreign t side got) none s = refl

pub tells-none-back : (e : Event) → told_at e ≡ None → (s : ℕ) → is_told s side.Switch e ≡ false
tells-none-back (event.Switch (of_switch.Take t)) none s = cc
tells-none-back (event.Controller of_controller.Begin) none s = refl
tells-none-back (event.Controller (of_controller.Send t)) none s = refl
tells-none-back (event.Controller (of_controller.Heard t)) none s = refl
tells-none-back (event.Switch (of_switch.Apply t k)) none s = refl
tells-none-back (event.Switch (of_switch.Reply t)) none s = refl
tells-none-back (event.Packet (of_packet.Arrive pk tag)) none s = refl
tells-none-back (event.Packet (of_packet.Hop k)) none s = refl
tells-none-back (event.Controller (of_controller.Drained stamp)) none s = refl
tells-none-back (event.Controller (of_controller.Lost t)) none s = refl
tells-none-back (event.Controller (of_controller.Rejoin t)) none s = refl
tells-none-back (event.Packet (of_packet.Stuck k)) none s = refl
tells-none-back (event.Foreign t side got) none s = refl

first-is : {X Y : Type 0} (p q : X × Y) → Some p ≡ Some q → p.0 ≡ q.0
first-is p q e = ap (λ r. r.0) (some-is p q e)

second-is : {X Y : Type 0} (p q : X × Y) → Some p ≡ Some q → p.1 ≡ q.1
second-is p q e = ap (λ r. r.1) (some-is p q e)

no-sides : (P : Type 0) → side.Controller ≡ side.Switch → P
no-sides P e = absurd (cc)

pub is-heard : (e : Event) (t : ℕ) → told_at e ≡ Some (side.Controller, t) → event.Controller (of_controller.Heard t) ≡ e
is-heard (event.Controller (of_controller.Heard s)) t is = ap (λ (n : ℕ). event.Controller (of_controller.Heard n)) (sym (second-is (side.Controller, s) (side.Controller, t) is))
is-heard (event.Switch (of_switch.Take s)) t is = no-sides _ (sym (first-is (side.Switch, s) (side.Controller, t) is))
is-heard (event.Controller of_controller.Begin) t is = absurd (cc)
is-heard (event.Controller (of_controller.Send s)) t is = absurd (cc)
is-heard (event.Switch (of_switch.Apply s k)) t is = absurd (cc)
is-heard (event.Switch (of_switch.Reply s)) t is = absurd (cc)
is-heard (event.Packet (of_packet.Arrive pk tag)) t is = absurd (cc)
is-heard (event.Packet (of_packet.Hop k)) t is = absurd (cc)
is-heard (event.Controller (of_controller.Drained stamp)) t is = absurd (cc)
is-heard (event.Controller (of_controller.Lost s)) t is = absurd (cc)
is-heard (event.Controller (of_controller.Rejoin s)) t is = absurd (cc)
is-heard (event.Packet (of_packet.Stuck k)) t is = absurd (cc)
is-heard (event.Foreign s side got) t is = absurd (cc)

pub is-taken : (e : Event) (t : ℕ) → told_at e ≡ Some (side.Switch, t) → event.Switch (of_switch.Take t) ≡ e
is-taken (event.Switch (of_switch.Take s)) t is = ap (λ (n : ℕ). event.Switch (of_switch.Take n)) (sym (second-is (side.Switch, s) (side.Switch, t) is))
is-taken (event.Controller (of_controller.Heard s)) t is = no-sides _ (first-is (side.Controller, s) (side.Switch, t) is)
is-taken (event.Controller of_controller.Begin) t is = absurd (cc)
is-taken (event.Controller (of_controller.Send s)) t is = absurd (cc)
is-taken (event.Switch (of_switch.Apply s k)) t is = absurd (cc)
is-taken (event.Switch (of_switch.Reply s)) t is = absurd (cc)
is-taken (event.Packet (of_packet.Arrive pk tag)) t is = absurd (cc)
is-taken (event.Packet (of_packet.Hop k)) t is = absurd (cc)
is-taken (event.Controller (of_controller.Drained stamp)) t is = absurd (cc)
is-taken (event.Controller (of_controller.Lost s)) t is = absurd (cc)
is-taken (event.Controller (of_controller.Rejoin s)) t is = absurd (cc)
is-taken (event.Packet (of_packet.Stuck k)) t is = absurd (cc)
is-taken (event.Foreign s side got) t is = absurd (cc)

-- an event for which an end is kept tells no message
pub met-silent : {E : Type 0} (n : ℕ) (named faults : E → ℕ) (received : E → Option (List ℕ)) (journal : List Entry) (e : Event) (end : E) → MetBy n named faults received journal e end → told_at e ≡ None
met-silent n named faults received journal (event.Controller of_controller.Begin) end met = absurd met
met-silent n named faults received journal (event.Controller (of_controller.Send t)) end met = absurd met
met-silent n named faults received journal (event.Switch (of_switch.Take t)) end met = absurd met
met-silent n named faults received journal (event.Switch (of_switch.Apply t k)) end met = absurd met
met-silent n named faults received journal (event.Switch (of_switch.Reply t)) end met = absurd met
met-silent n named faults received journal (event.Controller (of_controller.Heard t)) end met = absurd met
met-silent n named faults received journal (event.Packet (of_packet.Arrive pk tag)) end met = absurd met
met-silent n named faults received journal (event.Packet (of_packet.Hop k)) end met = absurd met
met-silent n named faults received journal (event.Controller (of_controller.Drained stamp)) end met = absurd met
met-silent n named faults received journal (event.Controller (of_controller.Lost t)) end met = refl
met-silent n named faults received journal (event.Controller (of_controller.Rejoin t)) end met = absurd met
met-silent n named faults received journal (event.Packet (of_packet.Stuck k)) end met = absurd met
met-silent n named faults received journal (event.Foreign t side got) end met = refl
