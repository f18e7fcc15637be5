-- The controller's part of a run of the world.
use Rattle.std.proofs.Common.{◌≡◌, inl, inr, ℕ, List, [], ◌∷◌, ◌++◌, slice_get, slice_set, refl, sym, ap, subst, ◌∙◌}
use Rattle.std.specs.List.{AllByRecursion}
use Rattle.update_coordinator.specs.Controls.{Control}
use Rattle.update_coordinator.specs.Hearing.{IsLost}
use Rattle.update_coordinator.proofs.Places.{get_set}
use Rattle.update_laws.specs.Fleets.{WiredSwitch, Fleet}
use Rattle.update_laws.proofs.Places.{get-within}
use Rattle.world_core.specs.declared.event.Event.{Event}
use Rattle.world_core.specs.declared.event.Event.TheVariants as event
use Rattle.world_core.specs.declared.event.ControllerEvent.TheVariants as of_controller
use Rattle.world_core.specs.declared.event.PacketEvent.TheVariants as of_packet
use Rattle.world_core.specs.declared.event.SwitchEvent.TheVariants as of_switch
use Rattle.world_core.specs.Worlds.{WorldValue}
use Rattle.world_core.specs.Steps.{Loses, Runs, Step}
use Rattle.drive_journal.specs.declared.steering.Steering.{Steering}
use Rattle.drive_journal.specs.declared.steering.Steering.TheVariants.{Begin, Send, Heard, Drained, Lost}
use Rattle.drive_journal.specs.Losses.{HaltsAtLoss}
use Rattle.drive_journal.specs.Steering.{Steers, Drives}
use Rattle.drive_journal.proofs.Losing.{losses-on}
use Rattle.drive_laws.specs.Laws.{IsHonest, Shows, Projects}

-- what an event is for the controller, which it leads to the same coordinator
pub record IsShown (w : WorldValue) (e : Event) (v : WorldValue) : Type 0 where
  pub events : List Steering
  pub shown : Shows w e v events
  pub drives : Drives w.fleet.control events v.fleet.control

control-of : (w v : WorldValue) (f : Fleet) → v ≡ record w { fleet = f } → v.fleet.control ≡ f.control
control-of w v f now = ap (λ (x : WorldValue). x.fleet.control) now

-- the coordinator stays
stays : (w v : WorldValue) (f : Fleet) → v ≡ record w { fleet = f } → f.control ≡ w.fleet.control → Drives w.fleet.control [] v.fleet.control
stays w v f now same = sym (control-of w v f now ∙ same)

one : (c x d : Control) (e : Steering) → Steers c e x → d ≡ x → Drives c (e ∷ []) d
one c x d e s is = (x, s, sym is)

-- which coordinator a lost session leaves
lost-control : (s : ℕ) (f g : Fleet) → Loses s f g → (d : Control) × IsLost s f.control d × (g.control ≡ d)
lost-control s f g (inl l) = (l.control, l.lost, ap (λ (x : Fleet). x.control) l.now)
lost-control s f g (inr l) = (l.control, l.lost, ap (λ (x : Fleet). x.control) l.now)

shown : (w : WorldValue) (e : Event) (v : WorldValue) → HaltsAtLoss w.fleet.control → IsHonest e → Step w e v → IsShown w e v
shown w (event.Controller of_controller.Begin) v l h s = record {
  events = Begin ∷ [];
  shown = refl;
  drives = one w.fleet.control v.fleet.control v.fleet.control Begin (s.step.asked, control-of w v s.fleet s.now ∙ ap (λ (f : Fleet). f.control) s.step.now) refl;
}
shown w (event.Controller (of_controller.Send p)) v l h s =
    let ends : v.fleet.wired ≡ slice_set w.fleet.wired p (record s.step.old { there = s.step.old.there ++ s.step.message ∷ [] }) = ap (λ (x : WorldValue). x.fleet.wired) s.now ∙ ap (λ (f : Fleet). f.wired) s.step.now in
    record {
      events = Send p s.step.message ∷ [];
      shown = (
        s.step.message,
        record {
          end_ = record s.step.old { there = s.step.old.there ++ s.step.message ∷ [] };
          here = ap (λ (es : List WiredSwitch). slice_get es p) ends ∙ get_set w.fleet.wired p _ (get-within p w.fleet.wired s.step.old s.step.here);
          is = (s.step.old.there, refl);
        },
        refl,
      );
      drives = one w.fleet.control s.step.control v.fleet.control (Send p s.step.message) s.step.sent (control-of w v s.fleet s.now ∙ ap (λ (f : Fleet). f.control) s.step.now);
    }
shown w (event.Switch (of_switch.Take p)) v l h s = record { events = []; shown = refl; drives = stays w v s.fleet s.now (ap (λ (f : Fleet). f.control) s.step.now) }
shown w (event.Switch (of_switch.Apply p k)) v l h s = record { events = []; shown = refl; drives = stays w v s.fleet s.now (ap (λ (f : Fleet). f.control) s.step.now) }
shown w (event.Switch (of_switch.Reply p)) v l h s = record { events = []; shown = refl; drives = stays w v s.fleet s.now (ap (λ (f : Fleet). f.control) s.step.now) }
shown w (event.Controller (of_controller.Heard p)) v l h s = record {
  events = Heard p s.step.message ∷ [];
  shown = (s.step.message, record { end_ = s.step.old; here = s.step.here; is = (s.step.rest, s.step.front) }, refl);
  drives = one w.fleet.control s.step.control v.fleet.control (Heard p s.step.message) (s.step.move, s.step.heard) (control-of w v s.fleet s.now ∙ ap (λ (f : Fleet). f.control) s.step.now);
}
shown w (event.Packet (of_packet.Arrive pk tag)) v l h s = record { events = []; shown = refl; drives = sym (ap (λ (x : WorldValue). x.fleet.control) s.now) }
shown w (event.Packet (of_packet.Hop k)) v l h s = record { events = []; shown = refl; drives = sym (ap (λ (x : WorldValue). x.fleet.control) s.now) }
shown w (event.Controller (of_controller.Drained stamp)) v l h s = record {
  events = Drained stamp ∷ [];
  shown = refl;
  drives = one w.fleet.control v.fleet.control v.fleet.control (Drained stamp) (s.step.step.asked, control-of w v s.step.fleet s.step.now ∙ ap (λ (f : Fleet). f.control) s.step.step.now) refl;
}
shown w (event.Controller (of_controller.Lost p)) v l h s = record {
  events = Lost p ∷ [];
  shown = refl;
  drives =
      let lost = lost-control p w.fleet s.fleet s.step in
      one w.fleet.control lost.0 v.fleet.control (Lost p) lost.1 (control-of w v s.fleet s.now ∙ lost.2);
}
shown w (event.Controller (of_controller.Rejoin p)) v l h s = absurd (l.there p (s.step.back.peer, s.step.back.here, s.step.back.away))
shown w (event.Packet (of_packet.Stuck k)) v l h s = absurd h
shown w (event.Foreign p side got) v l h s = absurd h

-- one list of events after another
drives-on : (c : Control) (es fs : List Steering) (x d : Control) → Drives c es x → Drives x fs d → Drives c (es ++ fs) d
drives-on c [] fs x d r s = subst (λ (y : Control). Drives y fs d) (sym r) s
drives-on c (e ∷ es) fs x d r s = (r.0, r.1, drives-on r.0 es fs x d r.2 s)

-- the first loss still halts the controller
losses-after : (c : Control) (es : List Steering) (d : Control) → HaltsAtLoss c → Drives c es d → HaltsAtLoss d
losses-after c [] d l r = subst HaltsAtLoss r l
losses-after c (e ∷ es) d l r = losses-after r.0 es d (losses-on c e r.0 r.1 l) r.2

pub driven : (w : WorldValue) (events : List Event) (v : WorldValue) → HaltsAtLoss w.fleet.control → AllByRecursion IsHonest events → Runs w events v → (es : List Steering) × Projects w events v es × Drives w.fleet.control es v.fleet.control
driven w [] v l h r = ([], (r, refl), ap (λ (x : WorldValue). x.fleet.control) r)
driven w (e ∷ events) v l h r =
    let s = shown w e r.0 l h.0 r.1 in
    let more = driven r.0 events v (losses-after w.fleet.control s.events r.0.fleet.control l s.drives) h.1 r.2 in (
      s.events ++ more.0,
      (r.0, s.events, more.0, r.1, s.shown, more.1, refl),
      drives-on w.fleet.control s.events more.0 r.0.fleet.control v.fleet.control s.drives more.2,
    )
