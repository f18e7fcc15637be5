-- Which events halt.
use Rattle.std.proofs.Common.{◌≡◌, ◌≢◌, ◌↔◌, ◌⊎◌, inl, inr, ℕ, List, [], ◌∷◌, length, refl, sym, ◌∙◌, ap, subst, Option, None, Some, slice_set}
use Rattle.openflow_wire.specs.declared.message.Message.{Message}
use Rattle.session_core.specs.Sessions.{move_of}
use Rattle.session_core.specs.declared.session.SessionFault.{SessionFault}
use Rattle.session_core.specs.declared.session.Move.{Move}
use Rattle.session_core.specs.declared.session.Move.TheVariants as moves
use Rattle.update_coordinator.specs.declared.cause.Cause.{Cause}
use Rattle.update_coordinator.specs.declared.cause.Cause.TheVariants as cause
use Rattle.update_coordinator.specs.declared.cause.Side.{Side}
use Rattle.update_coordinator.specs.Controls.{Control, Peer, lost_by}
use Rattle.update_coordinator.specs.Hearing.{IsMoved, due, met, told}
use Rattle.update_laws.specs.Fleets.{WiredSwitch, Fleet, HearsAt}
use Rattle.update_laws.proofs.Alike.{awaits-or-not}
use Rattle.update_laws.proofs.Places.{below-either}
use Rattle.update_laws.proofs.Wiring.{some-is, head-is}
use Rattle.packet_tracer.specs.declared.flight.Flight.{Flight}
use Rattle.world_core.specs.declared.event.Event.{Event}
use Rattle.world_core.specs.declared.event.Event.TheVariants as event
use Rattle.world_core.specs.declared.event.ControllerEvent.TheVariants as of_controller
use Rattle.world_core.specs.declared.event.PacketEvent.TheVariants as of_packet
use Rattle.world_core.specs.declared.event.SwitchEvent.TheVariants as of_switch
use Rattle.world_core.specs.Laws.{HaltsStay, LastLossHalts}
use Rattle.world_core.specs.Worlds.{WorldValue}
use Rattle.world_core.specs.Steps.{foreign_cause, InFleet, Loses, Receives, Runs, Step, Sticks}
use Rattle.run_laws.specs.Laws.{IsFailure, IsLastLoss, IsStrange, IsUndrained, HaltsFor, HaltsExactly, HaltsTell, WasHalted}

abbrev halt_of : WorldValue → Option Cause
halt_of w = w.fleet.control.halt

-- ---- an event that halts nothing

none-here : {P : Type 0} (o p : Option Cause) (why : Cause) → o ≡ p → p ≡ None → o ≡ Some why → P
none-here o p why e n s = let clash : Some why ≡ None = sym s ∙ e ∙ n in absurd (cc)

quiet : (w v : WorldValue) (e : Event) (why : Cause) → ¬ (HaltsFor w e why) → halt_of v ≡ halt_of w → halt_of w ≡ None → (halt_of v ≡ Some why) ↔ HaltsFor w e why
quiet w v e why never same running = ((λ h. none-here (halt_of v) (halt_of w) why same running h), (λ h. absurd (never h)))

-- ---- a message that is heard

moved-halt : (place sw : ℕ) (move : Move) (c d : Control) → IsMoved place sw move c d → (d.halt ≡ c.halt) ⊎ ((f : SessionFault) × (move ≡ moves.Failed f))
moved-halt place sw moves.Greeted c d m = inl (ap (λ (x : Control). x.halt) m)
moved-halt place sw moves.Up c d m = inl (ap (λ (x : Control). x.halt) m)
moved-halt place sw moves.Echo c d m = inl (ap (λ (x : Control). x.halt) m)
moved-halt place sw moves.Ignored c d m = inl (ap (λ (x : Control). x.halt) m)
moved-halt place sw (moves.Failed f) c d m = inr (f, refl)
moved-halt place sw (moves.Barrier x) c d m = elim (awaits-or-not c.replies place x) [
  | inr n ↦ inl (ap (λ (y : Control). y.halt) (m.stray n))
  | inl a ↦ elim (below-either c.replies place (length c.replies)) [
    | inl o ↦ inl (ap (λ (y : Control). y.halt) (m.last a o))
    | inr u ↦ inl (ap (λ (y : Control). y.halt) (m.more a (λ h. u.is (h u.other u.below u.differs))))
  ]
]

failed-halt : (place sw : ℕ) (move : Move) (f : SessionFault) (c d : Control) → move ≡ moves.Failed f → IsMoved place sw move c d → d.halt ≡ Some (cause.Failed sw f)
failed-halt place sw move f c d e m = ap (λ (x : Control). x.halt) (subst (λ (y : Move). IsMoved place sw y c d) e m)

-- the coordinator while it hears a message
abbrev hearing : ℕ → Message → Move → Peer → Control → Control
hearing place m move s c = record c { peers = slice_set c.peers place (met (due place c) move (told m s)) }

heard-halts : (place : ℕ) (w v : WorldValue) (why : Cause) → halt_of w ≡ None → InFleet (HearsAt place) w v → (halt_of v ≡ Some why) ↔ IsFailure place w why
heard-halts place w v why running s = (there, back)
  where
    after : halt_of v ≡ s.step.control.halt
    after = ap (λ (x : WorldValue). x.fleet.control.halt) s.now ∙ ap (λ (x : Fleet). x.control.halt) s.step.now

    there : halt_of v ≡ Some why → IsFailure place w why
    there h = elim (moved-halt place s.step.heard.peer.sw s.step.move (hearing place s.step.message s.step.move s.step.heard.peer w.fleet.control) s.step.control s.step.heard.now) [
      | inl e ↦ none-here (halt_of v) (halt_of w) why (after ∙ e) running h
      | inr f ↦ record {
        session = record { running = running; peer = s.step.heard.peer; here = s.step.heard.here; there = s.step.heard.there };
        end_ = s.step.old;
        here = s.step.here;
        message = s.step.message;
        rest = s.step.rest;
        front = s.step.front;
        fault = f.0;
        fails = sym s.step.heard.is ∙ f.1;
        is = some-is why (cause.Failed s.step.heard.peer.sw f.0)
            (sym h ∙ after ∙ failed-halt place s.step.heard.peer.sw s.step.move f.0 (hearing place s.step.message s.step.move s.step.heard.peer w.fleet.control) s.step.control f.1 s.step.heard.now);
      }
    ]

    back : IsFailure place w why → halt_of v ≡ Some why
    back x =
        let peer : x.session.peer ≡ s.step.heard.peer = some-is x.session.peer s.step.heard.peer (sym x.session.here ∙ s.step.heard.here) in
        let end_ : x.end_ ≡ s.step.old = some-is x.end_ s.step.old (sym x.here ∙ s.step.here) in
        let message : x.message ≡ s.step.message = head-is x.message s.step.message x.rest s.step.rest (sym x.front ∙ ap (λ (e : WiredSwitch). e.back) end_ ∙ s.step.front) in
        let fails : s.step.move ≡ moves.Failed x.fault = s.step.heard.is ∙ (λ i. move_of (sym peer i).session (sym message i)) ∙ x.fails in
        after ∙ failed-halt place s.step.heard.peer.sw s.step.move x.fault (hearing place s.step.message s.step.move s.step.heard.peer w.fleet.control) s.step.control fails s.step.heard.now
        ∙ ap (λ (y : Peer). Some (cause.Failed y.sw x.fault)) (sym peer) ∙ ap (λ (y : Cause). Some y) (sym x.is)

-- ---- a session that is lost

lost-for : (n place : ℕ) (s : Peer) (c : Control) → n ≡ 0 → (lost_by n place s c).halt ≡ Some (cause.Lost s.sw)
lost-for n place s c e = ap (λ (m : ℕ). (lost_by m place s c).halt) e

lost-halts : LastLossHalts → (place : ℕ) (w v : WorldValue) (why : Cause) → halt_of w ≡ None → InFleet (Loses place) w v → (halt_of v ≡ Some why) ↔ IsLastLoss place w why
lost-halts last-loss place w v why running s = elim s.step [
  | inl t ↦
      let after : halt_of v ≡ t.control.halt = ap (λ (x : WorldValue). x.fleet.control.halt) s.now ∙ ap (λ (x : Fleet). x.control.halt) t.now in (
        (λ h. none-here (halt_of v) t.control.halt why after t.goes_on h),
        (λ x. none-here (t.control.halt) None (cause.Lost t.lost.peer.sw) t.goes_on refl (ap (λ (c : Control). c.halt) t.lost.now ∙ lost-for w.fleet.control.rejoins place t.lost.peer w.fleet.control x.none_left)),
      )
  | inr t ↦
      let after : halt_of v ≡ t.control.halt = ap (λ (x : WorldValue). x.fleet.control.halt) s.now ∙ ap (λ (x : Fleet). x.control.halt) t.now in
      let halts : w.fleet.control.rejoins ≡ 0 → halt_of v ≡ Some (cause.Lost t.lost.peer.sw) = λ z. after ∙ ap (λ (c : Control). c.halt) t.lost.now ∙ lost-for w.fleet.control.rejoins place t.lost.peer w.fleet.control z in (
        (λ h.
            let last : w.fleet.control.rejoins ≡ 0 = last-loss w place v s (λ n. none-here (halt_of v) None why n refl h) in
            record {
              session = record { running = t.lost.running; peer = t.lost.peer; here = t.lost.here; there = t.lost.there };
              none_left = last;
              is = some-is why (cause.Lost t.lost.peer.sw) (sym h ∙ halts last);
            }),
        (λ x.
            halts x.none_left ∙ ap (λ (y : Peer). Some (cause.Lost y.sw)) (some-is t.lost.peer x.session.peer (sym t.lost.here ∙ x.session.here)) ∙ ap (λ (y : Cause). Some y) (sym x.is)),
      )
]

-- ---- a copy that is stuck, and foreign bytes

stuck-halts : (k : ℕ) (w v : WorldValue) (why : Cause) → Sticks k w v → (halt_of v ≡ Some why) ↔ IsUndrained k w why
stuck-halts k w v why s =
    let after : halt_of v ≡ Some (cause.Undrained s.stuck.flight.history) = ap halt_of s.now in (
      (λ h. record { stuck = s.stuck; is = some-is why (cause.Undrained s.stuck.flight.history) (sym h ∙ after) }),
      (λ x. after ∙ ap (λ (f : Flight). Some (cause.Undrained f.history)) (some-is s.stuck.flight x.stuck.flight (sym s.stuck.there ∙ x.stuck.there)) ∙ ap (λ (y : Cause). Some y) (sym x.is)),
    )

strange-halts : (place : ℕ) (side : Side) (got : List ℕ) (w v : WorldValue) (why : Cause) → Receives place side got w v → (halt_of v ≡ Some why) ↔ IsStrange place side got w why
strange-halts place side got w v why s =
    let stands = s.may.1 in
    let after : halt_of v ≡ Some (foreign_cause side got stands.end_) = ap halt_of s.now in (
      (λ h. record { session = s.may.0; end_ = stands.end_; here = stands.here; other = stands.is; is = some-is why (foreign_cause side got stands.end_) (sym h ∙ after) }),
      (λ x. after ∙ ap (λ (e : WiredSwitch). Some (foreign_cause side got e)) (some-is stands.end_ x.end_ (sym stands.here ∙ x.here)) ∙ ap (λ (y : Cause). Some y) (sym x.is)),
    )

-- ---- any event

never : ¬ ⊥
never h = h

in-fleet : (w v : WorldValue) (f : Fleet) → v ≡ record w { fleet = f } → halt_of v ≡ f.control.halt
in-fleet w v f now = ap halt_of now

pub halts-exactly : LastLossHalts → HaltsExactly
halts-exactly last w (event.Controller of_controller.Begin) v why n s = quiet w v (event.Controller of_controller.Begin) why never (in-fleet w v s.fleet s.now ∙ ap (λ (x : Fleet). x.control.halt) s.step.now) n
halts-exactly last w (event.Controller (of_controller.Send p)) v why n s =
    quiet w v (event.Controller (of_controller.Send p)) why never (in-fleet w v s.fleet s.now ∙ ap (λ (x : Fleet). x.control.halt) s.step.now ∙ ap (λ (x : Control). x.halt) s.step.sent.now) n
halts-exactly last w (event.Switch (of_switch.Take p)) v why n s = quiet w v (event.Switch (of_switch.Take p)) why never (in-fleet w v s.fleet s.now ∙ ap (λ (x : Fleet). x.control.halt) s.step.now) n
halts-exactly last w (event.Switch (of_switch.Apply p k)) v why n s = quiet w v (event.Switch (of_switch.Apply p k)) why never (in-fleet w v s.fleet s.now ∙ ap (λ (x : Fleet). x.control.halt) s.step.now) n
halts-exactly last w (event.Switch (of_switch.Reply p)) v why n s = quiet w v (event.Switch (of_switch.Reply p)) why never (in-fleet w v s.fleet s.now ∙ ap (λ (x : Fleet). x.control.halt) s.step.now) n
halts-exactly last w (event.Controller (of_controller.Heard p)) v why n s = heard-halts p w v why n s
halts-exactly last w (event.Packet (of_packet.Arrive pk tag)) v why n s = quiet w v (event.Packet (of_packet.Arrive pk tag)) why never (ap halt_of s.now) n
halts-exactly last w (event.Packet (of_packet.Hop k)) v why n s = quiet w v (event.Packet (of_packet.Hop k)) why never (ap halt_of s.now) n
halts-exactly last w (event.Controller (of_controller.Drained stamp)) v why n s =
    quiet w v (event.Controller (of_controller.Drained stamp)) why never (in-fleet w v s.step.fleet s.step.now ∙ ap (λ (x : Fleet). x.control.halt) s.step.step.now) n
halts-exactly last w (event.Controller (of_controller.Lost p)) v why n s = lost-halts last p w v why n s
halts-exactly last w (event.Controller (of_controller.Rejoin p)) v why n s =
    quiet w v (event.Controller (of_controller.Rejoin p)) why never (in-fleet w v s.fleet s.now ∙ ap (λ (x : Fleet). x.control.halt) s.step.now ∙ ap (λ (x : Control). x.halt) s.step.back.now) n
halts-exactly last w (event.Packet (of_packet.Stuck k)) v why n s = stuck-halts k w v why s
halts-exactly last w (event.Foreign p side got) v why n s = strange-halts p side got w v why s

-- ---- runs

runs-stay : HaltsStay → (w : WorldValue) (es : List Event) (v : WorldValue) → halt_of w ≢ None → Runs w es v → halt_of v ≡ halt_of w
runs-stay stay w [] v h r = sym (ap halt_of r)
runs-stay stay w (e ∷ es) v h r =
    let same : halt_of r.0 ≡ halt_of w = ap (λ (c : Control). c.halt) (stay w e r.0 h r.1) in
    runs-stay stay r.0 es v (λ n. h (sym same ∙ n)) r.2 ∙ same

-- where the first event has not halted, the others have
later : (w x : WorldValue) (e : Event) (es : List Event) (why : Cause) → Step w e x → WasHalted x es why → WasHalted w (e ∷ es) why
later w x e es why s h = record {
  before = e ∷ h.before;
  event = h.event;
  after = h.after;
  all = ap (λ (xs : List Event). e ∷ xs) h.all;
  world = h.world;
  led = (x, s, h.led);
  halted = h.halted;
}

now : HaltsStay → LastLossHalts → (w x v : WorldValue) (e : Event) (es : List Event) (why other : Cause) → halt_of w ≡ None → Step w e x → Runs x es v → halt_of x ≡ Some other → halt_of v ≡ Some why → WasHalted w (e ∷ es) why
now stay last w x v e es why other n s r q h =
    let same : halt_of v ≡ halt_of x = runs-stay stay x es v (λ m. none-here (halt_of x) None other m refl q) r in
    record { before = []; event = e; after = es; all = refl; world = w; led = refl; halted = (halts-exactly last w e x why n s).0 (sym same ∙ h) }

either : (o : Option Cause) → (o ≡ None) ⊎ ((why : Cause) × (o ≡ Some why))
either None = inl refl
either (Some why) = inr (why, refl)

pub halts-tell : HaltsStay → LastLossHalts → HaltsTell
halts-tell stay last w [] v why n r h = none-here (halt_of v) (halt_of w) why (sym (ap halt_of r)) n h
halts-tell stay last w (e ∷ es) v why n r h = elim (either (halt_of r.0)) [
  | inl q ↦ later w r.0 e es why r.1 (halts-tell stay last r.0 es v why q r.2 h)
  | inr q ↦ now stay last w r.0 v e es why q.0 n r.1 r.2 q.1 h
]
