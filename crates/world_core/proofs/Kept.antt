-- Each event keeps what every world keeps.
use Rattle.std.proofs.Common.{◌≡◌, ◌≢◌, ℕ, zero, suc, ◌+◌, ◌-◌, ◌≤◌, inl, inr, List, [], ◌∷◌, refl, sym, ◌∙◌, ap, subst, Option, None, Some, option_map, slice_get, is_some, arith}
use Rattle.nk_values.specs.declared.packet.Packet.{Packet}
use Rattle.nk_values.specs.declared.rows.Rows.{Rows}
use Rattle.nk_values.specs.Members.{IsIn}
use Rattle.nk_values.specs.Tags.{IsTag}
use Rattle.policy_rows.specs.declared.version.Version.{Version}
use Rattle.packet_tracer.specs.declared.flight.Flight.{Flight}
use Rattle.update_coordinator.specs.BarrierState.{BarrierState}
use Rattle.update_coordinator.specs.declared.cause.Cause.{Cause}
use Rattle.update_coordinator.specs.declared.cause.Cause.TheVariants as cause
use Rattle.update_coordinator.specs.Controls.{Control, Peer, halted}
use Rattle.update_coordinator.specs.Calls.{next_clean}
use Rattle.update_laws.specs.Updates.{IsSetting, Phase, Idle, Drain, Clean, Within, swept_after}
use Rattle.update_laws.specs.Settings.{stamp_in}
use Rattle.update_laws.specs.Fleets.{WiredSwitch, Fleet, FleetEvent, Begin, Send, Take, Apply, Answer, Hear, Drained, Lose, Return, Halt, FleetStep, LosesAt, ReturnsAt, SendsAt, TakesAt, AppliesAt, RepliesAt, HearsAt, Begins, Drains, wire_of}
use Rattle.update_laws.specs.Stages.{IsLine}
use Rattle.update_laws.specs.Traffic.{IsTraffic}
use Rattle.update_laws.proofs.Fleets.{end-here}
use Rattle.update_laws.proofs.Landing.{acknowledged-traffic, begun-traffic, drained-traffic, swept-traffic, drained-first}
use Rattle.update_laws.proofs.Made.{made}
use Rattle.update_laws.proofs.Moving.{heard-phase, begins-at, step-versions}
use Rattle.update_laws.proofs.Numbers.{step-numbers}
use Rattle.update_laws.proofs.Parting.{hop-apart, arrive-apart}
use Rattle.update_laws.proofs.Places.{get-map}
use Rattle.update_laws.proofs.Starting.{step-fleet}
use Rattle.update_laws.proofs.Traffic.{hop-traffic, arrive-traffic}
use Rattle.update_laws.proofs.Turning.{HasStamp, IsDrain, Waits, Oldest, drain-phase}
use Rattle.update_laws.proofs.Wiring.{some-is}
use Rattle.world_core.specs.declared.event.Event.{Event}
use Rattle.world_core.specs.declared.event.Event.TheVariants as event
use Rattle.world_core.specs.declared.event.ControllerEvent.TheVariants as of_controller
use Rattle.world_core.specs.declared.event.PacketEvent.TheVariants as of_packet
use Rattle.world_core.specs.declared.event.SwitchEvent.TheVariants as of_switch
use Rattle.world_core.specs.Worlds.{WorldValue, setting, Keeps, IsKept}
use Rattle.world_core.proofs.Sessions.{stopped, loss-phase}
use Rattle.world_core.proofs.Tables.{step-distinct}
use Rattle.world_core.specs.Steps.{foreign_cause, InFleet, Arrives, Hops, Loses, standing_still, Step, Runs}

-- what holds of the traffic in a phase, of so many swept policies
abbrev In_phase : WorldValue → ℕ → Phase → Type 0
In_phase w swept ph = IsTraffic w.topology (setting w) swept ph w.flights w.arrivals

abbrev Goes_by : WorldValue → Control → Type 0
Goes_by w c = In_phase w c.swept c.phase

-- an event of the coordinator and the switches alone
fleet-keeps : (w : WorldValue) (e : FleetEvent) (g : Fleet) → IsKept w → FleetStep w.fleet e g → (Keeps w → Goes_by w g.control) → IsKept (record w { fleet = g })
unfolding IsKept
fleet-keeps w e g k s traffic = record {
  topology = k.topology;
  versions = k.versions;
  limit = k.limit;
  places = step-numbers w.fleet e g s ∙ k.places;
  rows = step-versions w.fleet e g s ∙ k.rows;
  distinct = step-distinct w.fleet e g s k.distinct;
  fleet = step-fleet (setting w) (made w.topology w.versions w.limit w.capacity w.overlap k.topology k.versions) w.fleet e g s k.fleet;
  traffic = traffic k;
  apart = k.apart;
}

-- if the phase and what is swept are these
in-phase : (w : WorldValue) (c : Control) (swept : ℕ) (ph : Phase) → c.phase ≡ ph → c.swept ≡ swept → In_phase w swept ph → Goes_by w c
in-phase w c swept ph p q t = subst (λ (n : ℕ). In_phase w n c.phase) (sym q) (subst (λ (x : Phase). In_phase w swept x) (sym p) t)

-- they stay
abbrev Keeps_phase : Control → Control → Type 0
Keeps_phase c d = (d.phase ≡ c.phase) × (d.swept ≡ c.swept)

same-control : (c d : Control) → d ≡ c → Keeps_phase c d
same-control c d e = (ap (λ (x : Control). x.phase) e, ap (λ (x : Control). x.swept) e)

same-phase : (w : WorldValue) (g : Fleet) → Keeps_phase w.fleet.control g.control → Keeps w → Goes_by w g.control
same-phase w g e k = in-phase w g.control w.fleet.control.swept w.fleet.control.phase e.0 e.1 k.traffic

pub set : (w : WorldValue) → Keeps w → IsSetting (setting w)
set w k = made w.topology w.versions w.limit w.capacity w.overlap k.topology k.versions

sent-phase : (s : ℕ) (f g : Fleet) → SendsAt s f g → Keeps_phase f.control g.control
sent-phase s f g h = (
  ap (λ (x : Fleet). x.control.phase) h.now ∙ ap (λ (x : Control). x.phase) h.sent.now,
  ap (λ (x : Fleet). x.control.swept) h.now ∙ ap (λ (x : Control). x.swept) h.sent.now,
)

heard-traffic : (s : ℕ) (w : WorldValue) (g : Fleet) → HearsAt s w.fleet g → Keeps w → Goes_by w g.control
heard-traffic s w g h k = elim (heard-phase (setting w) (set w k) s w.fleet g h k.fleet) [
  | inl e ↦ same-phase w g e k
  | inr e ↦ in-phase w g.control (swept_after w.fleet.control.phase w.fleet.control.swept) _ e.0 e.1 (acknowledged-traffic w.topology (setting w) w.fleet.control.swept w.fleet.control.phase w.flights w.arrivals k.traffic)
]

begun-keeps : (w : WorldValue) (g : Fleet) → Begins w.fleet g → Keeps w → Goes_by w g.control
begun-keeps w g h k =
    let b = begins-at w.fleet.control h.asked in
    in-phase w g.control w.fleet.control.swept _ (ap (λ (x : Fleet). x.control.phase) h.now ∙ b.next) (ap (λ (x : Fleet). x.control.swept) h.now ∙ b.swept)
    (begun-traffic w.topology (setting w) w.fleet.control.swept b.policy w.flights w.arrivals (subst (λ (ph : Phase). In_phase w w.fleet.control.swept ph) b.here k.traffic))

stamp-of : (w : WorldValue) → Keeps w → (k stamp : ℕ) → HasStamp w.fleet.control k stamp → (setting w).stamp (suc k) ≡ stamp
stamp-of w q k stamp e =
    let r = get-mapped-some (λ (r : Rows). r.stamp) (slice_get w.fleet.control.versions k) stamp e in
    let v = get-map (λ (v : Version). v.rows) k w.versions r.0 (ap (λ (rs : List Rows). slice_get rs k) (sym q.rows) ∙ r.1) in
    ap (λ (o : Option Version). stamp_in o) v.1 ∙ ap (λ (x : Rows). x.stamp) v.2 ∙ r.2
  where
    get-mapped-some : (f : Rows → ℕ) (o : Option Rows) (n : ℕ) → option_map f o ≡ Some n → (r : Rows) × (o ≡ Some r) × (f r ≡ n)
    get-mapped-some f None n h = absurd (cc)
    get-mapped-some f (Some r) n h = (r, refl, some-is (f r) n h)

drained-keeps : (stamp : ℕ) (w : WorldValue) (g : Fleet) → Drains stamp w.fleet g → ((f : Flight) → IsIn w.flights f → f.tag ≢ Some stamp) → Keeps w → Goes_by w g.control
drained-keeps stamp w g h none k = by_drain (drain-phase w.fleet stamp h.asked)
  where
    -- no copy carries the stamp of the policy after n others
    gone : (n v : ℕ) → v ≡ suc n → HasStamp w.fleet.control n stamp → (f : Flight) → IsIn w.flights f → f.tag ≢ Some ((setting w).stamp v)
    gone n v e t f x d = none f x (d ∙ ap (λ (m : ℕ). Some ((setting w).stamp m)) e ∙ ap (λ (m : ℕ). Some m) (stamp-of w k n stamp t))

    by_policy : (i : ℕ) → HasStamp w.fleet.control (i - 2) stamp → Within (setting w) w.fleet.control.swept (Drain i) → In_phase w w.fleet.control.swept (Drain i) → In_phase w w.fleet.control.swept (Clean i)
    by_policy zero e n t = drained-first w.topology (setting w) w.fleet.control.swept 0 (omega arith) w.flights w.arrivals t
    by_policy (suc zero) e n t = drained-first w.topology (setting w) w.fleet.control.swept 1 (omega arith) w.flights w.arrivals t
    by_policy (suc (suc m)) e n t =
        let one : suc (suc m) - 1 ≡ suc m = omega arith in
        let two : suc (suc m) - 2 ≡ m = omega arith in
        drained-traffic w.topology (setting w) w.fleet.control.swept (suc (suc m)) n w.flights w.arrivals
        (gone m (suc (suc m) - 1) one (subst (λ (n : ℕ). HasStamp w.fleet.control n stamp) two e)) t

    next : (ph : Phase) → w.fleet.control.phase ≡ ph → swept_after ph w.fleet.control.swept ≡ w.fleet.control.swept → In_phase w w.fleet.control.swept (next_clean w.fleet.control.swept ph) → Goes_by w g.control
    next ph e same t =
        in-phase w g.control w.fleet.control.swept (next_clean w.fleet.control.swept ph) (ap (λ (x : Fleet). x.control.phase) h.now ∙ ap (next_clean w.fleet.control.swept) e)
        (ap (λ (x : Fleet). x.control.swept) h.now ∙ ap (λ (x : Phase). swept_after x w.fleet.control.swept) e ∙ same) t

    by_drain : IsDrain w.fleet stamp → Goes_by w g.control
    by_drain (Waits i e n) = next (Drain i) e refl (by_policy i n (subst (λ (ph : Phase). Within (setting w) w.fleet.control.swept ph) e k.fleet.within) (subst (λ (ph : Phase). In_phase w w.fleet.control.swept ph) e k.traffic))
    by_drain (Oldest i e l n) = next (Idle i) e refl
        (swept-traffic w.topology (setting w) w.fleet.control.swept i w.flights w.arrivals (gone w.fleet.control.swept (w.fleet.control.swept + 1) (omega arith) n)
        (subst (λ (ph : Phase). In_phase w w.fleet.control.swept ph) e k.traffic))

-- a halt keeps the phase
halt-keeps : (why : Cause) (w : WorldValue) → IsKept w → IsKept (standing_still why w)
halt-keeps why w k = fleet-keeps w Halt (record w.fleet { control = halted why w.fleet.control }) k (record { cause = why; now = refl }) (same-phase w (record w.fleet { control = halted why w.fleet.control }) (refl, refl))

-- the line of a switch
pub line-at : (w : WorldValue) (k : Keeps w) (place : ℕ) (e : WiredSwitch) → slice_get w.fleet.wired place ≡ Some e → (s : Peer) × (r : BarrierState) × IsLine (setting w) w.fleet.control.swept w.fleet.control.phase (is_some w.fleet.control.halt) (wire_of w.fleet.control s r e)
line-at w k place e here =
    let h = end-here (setting w) w.fleet k.fleet place e here in
    (h.peer, h.reply, k.fleet.lines place h.peer h.reply e h.peer_at h.reply_at here)

small : (tag : Option ℕ) → IsTag tag → (n : ℕ) → tag ≡ Some n → n ≤ 4094
small tag t n e = (subst IsTag e t).1

arrive-keeps : (pk : Packet) (tag : Option ℕ) (w v : WorldValue) → Arrives pk tag w v → IsKept w → IsKept v
unfolding IsKept
arrive-keeps pk tag w v h k = subst (λ (x : WorldValue). IsKept x) (sym h.now) (record {
  topology = k.topology;
  versions = k.versions;
  limit = k.limit;
  places = k.places;
  rows = k.rows;
  distinct = k.distinct;
  fleet = k.fleet;
  traffic =
      let l = line-at w k h.place h.end_ h.here in
      arrive-traffic w.topology (setting w) refl k.topology.sound (set w k) k.limit w.fleet.control.swept w.fleet.control.phase k.fleet.within h.end_.switch.sw _ h.end_.switch.table.rows l.2.table.changing pk tag h.finished h.next w.flights w.arrivals
      (small tag h.may.1) h.may.0 h.may.2 h.stands h.handled k.traffic;
  apart =
      let l = line-at w k h.place h.end_ h.here in
      arrive-apart w.topology (setting w) refl (set w k) w.fleet.control.swept w.fleet.control.phase k.fleet.within h.end_.switch.sw _ h.end_.switch.table.rows l.2.table.changing pk tag h.finished h.next w.flights w.arrivals
      (small tag h.may.1) h.may.0 h.may.2 h.stands h.handled k.traffic.known k.apart;
})

hop-keeps : (k : ℕ) (w v : WorldValue) → Hops k w v → IsKept w → IsKept v
unfolding IsKept
hop-keeps n w v h k = subst (λ (x : WorldValue). IsKept x) (sym h.now) (record {
  topology = k.topology;
  versions = k.versions;
  limit = k.limit;
  places = k.places;
  rows = k.rows;
  distinct = k.distinct;
  fleet = k.fleet;
  traffic =
      let l = line-at w k h.place h.end_ h.here in
      hop-traffic w.topology (setting w) refl k.topology.sound (set w k) w.fleet.control.swept w.fleet.control.phase k.fleet.within h.end_.switch.sw _ h.end_.switch.table.rows l.2.table.changing n h.may.flight h.arrival h.finished h.next w.flights w.arrivals
      h.may.there h.may.limit h.stands h.handled h.of k.traffic;
  apart =
      let l = line-at w k h.place h.end_ h.here in
      hop-apart w.topology (setting w) refl (set w k) w.fleet.control.swept w.fleet.control.phase k.fleet.within h.end_.switch.sw _ h.end_.switch.table.rows l.2.table.changing n h.may.flight h.arrival h.finished h.next w.flights w.arrivals
      h.may.there h.stands h.handled h.of k.traffic k.apart;
})

-- ---- any event

in-fleet : (Does : Fleet → Fleet → Type 0) (e : FleetEvent) (w v : WorldValue) (h : InFleet Does w v) → IsKept w → FleetStep w.fleet e h.fleet → (Keeps w → Goes_by w h.fleet.control) → IsKept v
in-fleet Does e w v h k s t = subst (λ (x : WorldValue). IsKept x) (sym h.now) (fleet-keeps w e h.fleet k s t)

-- the session with a switch is lost, for a time or at last
lost-keeps : (s : ℕ) (w v : WorldValue) → InFleet (Loses s) w v → IsKept w → IsKept v
lost-keeps s w v h k = elim h.step [
  | inl t ↦ in-fleet (LosesAt s) (Lose s) w v (record { fleet = h.fleet; step = t; now = h.now }) k t
      (same-phase w h.fleet (let l = loss-phase s w.fleet.control t.control t.lost in (ap (λ (x : Fleet). x.control.phase) t.now ∙ l.0, ap (λ (x : Fleet). x.control.swept) t.now ∙ l.1)))
  | inr t ↦ subst (λ (x : WorldValue). IsKept x) (sym (h.now ∙ ap (λ (f : Fleet). record w { fleet = f }) (stopped s w.fleet h.fleet t))) (halt-keeps (cause.Lost t.lost.peer.sw) w k)
]

pub step-keeps : (w : WorldValue) (e : Event) (v : WorldValue) → Step w e v → IsKept w → IsKept v
step-keeps w (event.Controller of_controller.Begin) v h k = in-fleet Begins Begin w v h k h.step (begun-keeps w h.fleet h.step)
step-keeps w (event.Controller (of_controller.Send s)) v h k = in-fleet (SendsAt s) (Send s) w v h k h.step (same-phase w h.fleet (sent-phase s w.fleet h.fleet h.step))
step-keeps w (event.Switch (of_switch.Take s)) v h k = in-fleet (TakesAt s) (Take s) w v h k h.step (same-phase w h.fleet (same-control w.fleet.control h.fleet.control (ap (λ (x : Fleet). x.control) h.step.now)))
step-keeps w (event.Switch (of_switch.Apply s n)) v h k = in-fleet (AppliesAt s n) (Apply s n) w v h k h.step (same-phase w h.fleet (same-control w.fleet.control h.fleet.control (ap (λ (x : Fleet). x.control) h.step.now)))
step-keeps w (event.Switch (of_switch.Reply s)) v h k = in-fleet (RepliesAt s) (Answer s) w v h k h.step (same-phase w h.fleet (same-control w.fleet.control h.fleet.control (ap (λ (x : Fleet). x.control) h.step.now)))
step-keeps w (event.Controller (of_controller.Heard s)) v h k = in-fleet (HearsAt s) (Hear s) w v h k h.step (heard-traffic s w h.fleet h.step)
step-keeps w (event.Packet (of_packet.Arrive pk tag)) v h k = arrive-keeps pk tag w v h k
step-keeps w (event.Packet (of_packet.Hop n)) v h k = hop-keeps n w v h k
step-keeps w (event.Controller (of_controller.Drained stamp)) v h k = in-fleet (Drains stamp) (Drained stamp) w v h.step k h.step.step (drained-keeps stamp w h.step.fleet h.step.step h.none)
step-keeps w (event.Controller (of_controller.Lost s)) v h k = lost-keeps s w v h k
step-keeps w (event.Controller (of_controller.Rejoin s)) v h k = in-fleet (ReturnsAt s 0) (Return s 0) w v h k h.step (same-phase w h.fleet (ap (λ (x : Fleet). x.control.phase) h.step.now ∙ ap (λ (x : Control). x.phase) h.step.back.now, ap (λ (x : Fleet). x.control.swept) h.step.now ∙ ap (λ (x : Control). x.swept) h.step.back.now))
step-keeps w (event.Packet (of_packet.Stuck n)) v h k = subst (λ (x : WorldValue). IsKept x) (sym h.now) (halt-keeps (cause.Undrained h.stuck.flight.history) w k)
step-keeps w (event.Foreign s side got) v h k = subst (λ (x : WorldValue). IsKept x) (sym h.now) (halt-keeps (foreign_cause side got h.may.1.end_) w k)

pub run-keeps : (w : WorldValue) (es : List Event) (v : WorldValue) → Runs w es v → IsKept w → IsKept v
run-keeps w [] v r k = subst (λ (x : WorldValue). IsKept x) r k
run-keeps w (e ∷ es) v r k = run-keeps r.0 es v r.2 (step-keeps w e r.0 r.1 k)
