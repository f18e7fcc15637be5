-- What stays the same in every step.
use Rattle.std.proofs.Common.{◌≡◌, inl, inr, ℕ, zero, suc, false, Result, Ok, Err, OnOk, OnErr, List, [], ◌∷◌, ◌++◌, length, Option, Some, slice_get, slice_set, refl, sym, ap, ◌∙◌}
use Rattle.std.proofs.lemmas.List.{length-set}
use Rattle.nk_values.specs.declared.packet.Packet.{Packet}
use Rattle.update_laws.specs.Fleets.{Fleet}
use Rattle.update_laws.specs.Traffic.{Arrived}
use Rattle.world_core.specs.declared.event.Event.{Event}
use Rattle.world_core.specs.declared.event.Event.TheVariants as event
use Rattle.world_core.specs.declared.event.ControllerEvent.TheVariants as of_controller
use Rattle.world_core.specs.declared.event.PacketEvent.TheVariants as of_packet
use Rattle.world_core.specs.declared.event.SwitchEvent.TheVariants as of_switch
use Rattle.world_core.specs.Worlds.{WorldValue}
use Rattle.world_core.specs.Steps.{Step, Runs}
use Rattle.world_journal.specs.declared.line.Line.{Line}
use Rattle.world_journal.specs.Journals.{switches, HeldValue}
use Rattle.world_journal.specs.Arriving.{line_of, lines_of, is_arrival}

-- ---- the number of switches

same-count : (w v : WorldValue) (f : Fleet) → v ≡ record w { fleet = f } → length f.wired ≡ length w.fleet.wired → switches v ≡ switches w
same-count w v f now same = ap switches now ∙ same

pub step-count : (w : WorldValue) (e : Event) (v : WorldValue) → Step w e v → switches v ≡ switches w
step-count w (event.Controller of_controller.Begin) v s = same-count w v s.fleet s.now (ap (λ (f : Fleet). length f.wired) s.step.now)
step-count w (event.Controller (of_controller.Send p)) v s = same-count w v s.fleet s.now (ap (λ (f : Fleet). length f.wired) s.step.now ∙ length-set w.fleet.wired p _)
step-count w (event.Switch (of_switch.Take p)) v s = same-count w v s.fleet s.now (ap (λ (f : Fleet). length f.wired) s.step.now ∙ length-set w.fleet.wired p _)
step-count w (event.Switch (of_switch.Apply p k)) v s = same-count w v s.fleet s.now (ap (λ (f : Fleet). length f.wired) s.step.now ∙ length-set w.fleet.wired p _)
step-count w (event.Switch (of_switch.Reply p)) v s = same-count w v s.fleet s.now (ap (λ (f : Fleet). length f.wired) s.step.now ∙ length-set w.fleet.wired p _)
step-count w (event.Controller (of_controller.Heard p)) v s = same-count w v s.fleet s.now (ap (λ (f : Fleet). length f.wired) s.step.now ∙ length-set w.fleet.wired p _)
step-count w (event.Packet (of_packet.Arrive pk tag)) v s = ap switches s.now
step-count w (event.Packet (of_packet.Hop k)) v s = ap switches s.now
step-count w (event.Controller (of_controller.Drained stamp)) v s = same-count w v s.step.fleet s.step.now (ap (λ (f : Fleet). length f.wired) s.step.step.now)
step-count w (event.Controller (of_controller.Lost p)) v s = elim s.step [
  | inl t ↦ same-count w v s.fleet s.now (ap (λ (f : Fleet). length f.wired) t.now ∙ length-set w.fleet.wired p _)
  | inr t ↦ same-count w v s.fleet s.now (ap (λ (f : Fleet). length f.wired) t.now)
]
step-count w (event.Controller (of_controller.Rejoin p)) v s = same-count w v s.fleet s.now (ap (λ (f : Fleet). length f.wired) s.step.now ∙ length-set w.fleet.wired p _)
step-count w (event.Packet (of_packet.Stuck k)) v s = ap switches s.now
step-count w (event.Foreign p side got) v s = ap switches s.now

pub runs-count : (w : WorldValue) (es : List Event) (v : WorldValue) → Runs w es v → switches v ≡ switches w
runs-count w [] v r = ap switches (sym r)
runs-count w (e ∷ es) v r = runs-count r.0 es v r.2 ∙ step-count w e r.0 r.1

-- ---- the packets that came in

some-is : {X : Type 0} (x y : X) → Some x ≡ Some y → x ≡ y
some-is x y e = cc

-- one of them changes, but not as a line
lines-set : (as_ : List Arrived) (n : ℕ) (a b : Arrived) → slice_get as_ n ≡ Some a → line_of b ≡ line_of a → lines_of (slice_set as_ n b) ≡ lines_of as_
lines-set [] n a b h e = refl
lines-set (c ∷ cs) zero a b h e = ap (λ (l : Line). l ∷ lines_of cs) (e ∙ ap line_of (sym (some-is c a h)))
lines-set (c ∷ cs) (suc n) a b h e = ap (λ (ls : List Line). line_of c ∷ ls) (lines-set cs n a b h e)

lines-more : (as_ : List Arrived) (a : Arrived) → lines_of (as_ ++ a ∷ []) ≡ lines_of as_ ++ line_of a ∷ []
lines-more [] a = refl
lines-more (c ∷ cs) a = ap (λ (ls : List Line). line_of c ∷ ls) (lines-more cs a)

lines-same : (w v : WorldValue) → v.arrivals ≡ w.arrivals → lines_of v.arrivals ≡ lines_of w.arrivals
lines-same w v e = ap lines_of e

pub step-lines : (w : WorldValue) (e : Event) (v : WorldValue) → Step w e v → is_arrival e ≡ false → lines_of v.arrivals ≡ lines_of w.arrivals
step-lines w (event.Controller of_controller.Begin) v s plain = lines-same w v (ap (λ (x : WorldValue). x.arrivals) s.now)
step-lines w (event.Controller (of_controller.Send p)) v s plain = lines-same w v (ap (λ (x : WorldValue). x.arrivals) s.now)
step-lines w (event.Switch (of_switch.Take p)) v s plain = lines-same w v (ap (λ (x : WorldValue). x.arrivals) s.now)
step-lines w (event.Switch (of_switch.Apply p k)) v s plain = lines-same w v (ap (λ (x : WorldValue). x.arrivals) s.now)
step-lines w (event.Switch (of_switch.Reply p)) v s plain = lines-same w v (ap (λ (x : WorldValue). x.arrivals) s.now)
step-lines w (event.Controller (of_controller.Heard p)) v s plain = lines-same w v (ap (λ (x : WorldValue). x.arrivals) s.now)
step-lines w (event.Packet (of_packet.Arrive pk tag)) v s plain = cc
step-lines w (event.Packet (of_packet.Hop k)) v s plain =
    ap (λ (x : WorldValue). lines_of x.arrivals) s.now
    ∙ lines-set w.arrivals s.may.flight.arrival s.arrival (record s.arrival { finished = s.arrival.finished ++ s.finished }) s.of refl
step-lines w (event.Controller (of_controller.Drained stamp)) v s plain = lines-same w v (ap (λ (x : WorldValue). x.arrivals) s.step.now)
step-lines w (event.Controller (of_controller.Lost p)) v s plain = lines-same w v (ap (λ (x : WorldValue). x.arrivals) s.now)
step-lines w (event.Controller (of_controller.Rejoin p)) v s plain = lines-same w v (ap (λ (x : WorldValue). x.arrivals) s.now)
step-lines w (event.Packet (of_packet.Stuck k)) v s plain = lines-same w v (ap (λ (x : WorldValue). x.arrivals) s.now)
step-lines w (event.Foreign p side got) v s plain = lines-same w v (ap (λ (x : WorldValue). x.arrivals) s.now)

pub arrival-line : (w : WorldValue) (pk : Packet) (tag : Option ℕ) (v : WorldValue) → Step w (event.Packet (of_packet.Arrive pk tag)) v → lines_of v.arrivals ≡ lines_of w.arrivals ++ record { packet = pk; tag = tag } ∷ []
arrival-line w pk tag v s = ap (λ (x : WorldValue). lines_of x.arrivals) s.now ∙ lines-more w.arrivals _

-- a call that did such a step or left all as it was
pub call-lines : {E T F : Type 0} (old new : HeldValue E) (Q : Type 0) (r : Result T F) (e : Event) → OnOk r (Step old.world e new.world) → OnErr r ((new ≡ old) × Q) → is_arrival e ≡ false → lines_of new.world.arrivals ≡ lines_of old.world.arrivals
call-lines old new Q (Ok x) e s n plain = step-lines old.world e new.world s plain
call-lines old new Q (Err x) e s n plain = ap (λ h. lines_of h.world.arrivals) n.0
