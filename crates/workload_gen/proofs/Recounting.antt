-- An event of a switch changes nothing at the others.
use Rattle.std.proofs.Common.{◌≡◌, ◌≢◌, Bool, true, false, if◌then◌else◌, ◌==◌, ◌||◌, nat_lt, ℕ, zero, suc, ◌+◌, ◌-◌, ◌%◌, ◌<◌, ◌≤◌, inl, inr, List, [], ◌∷◌, ◌++◌, length, refl, sym, ◌∙◌, ap, subst, Option, None, Some, slice_get, slice_set, get_or, arith}
use native.Mathlib.Decide.{ℕ_discrete}
use Rattle.nk_values.specs.declared.packet.Packet.{Packet}
use Rattle.nk_values.specs.Members.{IsIn}
use Rattle.topology_model.specs.Layouts.{Layout, edges_of}
use Rattle.policy_rows.specs.Means.{standing}
use Rattle.document_text.specs.declared.document.PacketLine.{PacketLine}
use Rattle.packet_tracer.specs.declared.flight.Flight.{Flight}
use Rattle.update_coordinator.specs.Move.{Move}
use Rattle.update_coordinator.specs.Move.TheVariants as moves
use Rattle.update_coordinator.specs.Replies.{OthersHeard, heard_at}
use Rattle.update_coordinator.specs.declared.cause.Cause.TheVariants as cause
use Rattle.update_coordinator.specs.declared.phase.Phase.{Phase}
use Rattle.update_coordinator.specs.declared.phase.Phase.TheVariants.{Opening, Idle, Install, Flip, Drain, Clean, Tidy, Sweep}
use Rattle.update_coordinator.specs.Batches.{rounds_of}
use Rattle.update_coordinator.specs.Calls.{begin_refusal, drain_refusal}
use Rattle.update_coordinator.specs.Controls.{Control, Peer, batch_at}
use Rattle.update_coordinator.specs.Hearing.{IsAnswered, IsMoved, due as is_due, met, told}
use Rattle.update_coordinator.specs.Phases.{acknowledged, flipped, works}
use Rattle.update_coordinator.specs.Sending.{MaySend}
use Rattle.update_coordinator.proofs.Orders.{some_orders, orders_some}
use Rattle.update_laws.specs.Fleets.{WiredSwitch, Fleet, SendsAt, TakesAt, AppliesAt, RepliesAt}
use Rattle.update_laws.proofs.Alike.{awaits-or-not}
use Rattle.update_laws.proofs.Places.{Put, below-either, get-some, get-within, put-set}
use Rattle.update_laws.proofs.Wiring.{some-is}
use Rattle.world_core.specs.declared.event.Event.{Event}
use Rattle.world_core.specs.declared.event.Event.TheVariants as event
use Rattle.world_core.specs.declared.event.ControllerEvent.TheVariants as of_controller
use Rattle.world_core.specs.declared.event.PacketEvent.TheVariants as of_packet
use Rattle.world_core.specs.declared.event.SwitchEvent.TheVariants as of_switch
use Rattle.world_core.specs.Ends.{HasSession}
use Rattle.world_core.specs.Settling.{hops_from}
use Rattle.world_core.specs.Steps.{InFleet, IsEnabled, MayHop, NoneCarries, Stands, Step}
use Rattle.world_core.specs.Worlds.{WorldValue}
use Rattle.workload_gen.specs.Counts.{AreCounts, AreOthers, IsCount, ChangesOneSwitch}
use Rattle.workload_gen.specs.Draws.{AreEnabled, applies_from, arrival, due, left_by, pending_at, report, tried_at, tried_last}

-- ---- one switch

-- a switch, its channels, the coordinator's part of it and the halt are as they were
pub record SameAt (s : ℕ) (w v : WorldValue) : Type 0 where
  pub halt : v.fleet.control.halt ≡ w.fleet.control.halt
  pub end_ : slice_get v.fleet.wired s ≡ slice_get w.fleet.wired s
  pub peer : slice_get v.fleet.control.peers s ≡ slice_get w.fleet.control.peers s

turned : (s : ℕ) (w v : WorldValue) → SameAt s w v → SameAt s v w
turned s w v a = record { halt = sym a.halt; end_ = sym a.end_; peer = sym a.peer }

stands-same : (s : ℕ) (w v : WorldValue) (Is : WiredSwitch → Type 0) → SameAt s w v → Stands s w Is → Stands s v Is
stands-same s w v Is a h = record { end_ = h.end_; here = a.end_ ∙ h.here; is = h.is }

session-same : (s : ℕ) (w v : WorldValue) → SameAt s w v → HasSession s w.fleet.control → HasSession s v.fleet.control
session-same s w v a h = record { running = a.halt ∙ h.running; peer = h.peer; here = a.peer ∙ h.here; there = h.there }

-- whether something is to be sent does not depend on the batch
sends-same : (s : ℕ) (w v : WorldValue) → SameAt s w v → MaySend s w.fleet.control → MaySend s v.fleet.control
sends-same s w v a h =
    record { running = a.halt ∙ h.running; peer = h.peer; here = a.peer ∙ h.here; some = some_orders (batch_at v.fleet.control h.peer) h.peer (orders_some (batch_at w.fleet.control h.peer) h.peer h.some) }

-- what can happen in the one world can in the other
abbrev AreMoved : WorldValue → WorldValue → List Event → Type 0
AreMoved w v [] = Unit {0}
AreMoved w v (c ∷ cs) = (IsEnabled w c → IsEnabled v c) × (IsEnabled v c → IsEnabled w c) × AreMoved w v cs

moved-both : (w v : WorldValue) (cs ds : List Event) → AreMoved w v cs → AreMoved w v ds → AreMoved w v (cs ++ ds)
moved-both w v [] ds a b = b
moved-both w v (c ∷ cs) ds a b = (a.0, a.1, moved-both w v cs ds a.2 b)

enabled-moved : (w v : WorldValue) (cs es : List Event) → AreMoved w v cs → AreEnabled w cs es → AreEnabled v cs es
enabled-moved w v [] es m a = a
enabled-moved w v (c ∷ cs) es m (inl a) = inl (m.0 a.0, a.1, a.2, enabled-moved w v cs a.1 m.2 a.3)
enabled-moved w v (c ∷ cs) es m (inr a) = inr ((λ h. a.0 (m.1 h)), enabled-moved w v cs es m.2 a.1)

applies-moved : (s k n : ℕ) (w v : WorldValue) → SameAt s w v → AreMoved w v (applies_from s k n)
applies-moved s k zero w v a = tt
applies-moved s k (suc n) w v a = (stands-same s w v _ a, stands-same s v w _ (turned s w v a), applies-moved s (k + 1) n w v a)

tried-moved : (s : ℕ) (w v : WorldValue) → SameAt s w v → AreMoved w v (tried_at w s)
tried-moved s w v a =
    let b = turned s w v a in (
      (λ h. (session-same s w v a h.0, stands-same s w v _ a h.1)),
      (λ h. (session-same s v w b h.0, stands-same s v w _ b h.1)),
      (
        (λ h. stands-same s w v _ a h),
        (λ h. stands-same s v w _ b h),
        moved-both w v (applies_from s 0 (pending_at (slice_get w.fleet.wired s))) (event.Switch (of_switch.Take s) ∷ event.Controller (of_controller.Send s) ∷ []) (applies-moved s 0 (pending_at (slice_get w.fleet.wired s)) w v a) (
          (λ h. stands-same s w v _ a h),
          (λ h. stands-same s v w _ b h),
          (
            (λ h. sends-same s w v a h),
            (λ h. sends-same s v w b h),
            tt,
          ),
        ),
      ),
    )

kept-count : (s n : ℕ) (w v : WorldValue) → SameAt s w v → IsCount w (tried_at w s) n → IsCount v (tried_at v s) n
kept-count s n w v a c = record {
  events = c.events;
  enabled = subst (λ (o : Option WiredSwitch). AreEnabled v (event.Controller (of_controller.Heard s) ∷ event.Switch (of_switch.Reply s) ∷ (applies_from s 0 (pending_at o) ++ event.Switch (of_switch.Take s) ∷ event.Controller (of_controller.Send s) ∷ [])) c.events) (sym a.end_)
      (enabled-moved w v (tried_at w s) c.events (tried-moved s w v a) c.enabled);
  count = c.count;
}

-- ---- all switches

-- nothing of them has changed
pub same-counts : (w v : WorldValue) (counts : List ℕ) → v.topology ≡ w.topology → v.fleet ≡ w.fleet → AreCounts w counts → AreCounts v counts
same-counts w v counts t f c = record {
  all = c.all ∙ ap (λ (x : Layout). length x.switches) (sym t);
  each = λ k n e. kept-count k n w v (record { halt = ap (λ (x : Fleet). x.control.halt) f; end_ = ap (λ (x : Fleet). slice_get x.wired k) f; peer = ap (λ (x : Fleet). slice_get x.control.peers k) f }) (c.each k n e);
}

-- all were counted anew
pub new-counts : (w v : WorldValue) (counts new : List ℕ) → v.topology ≡ w.topology → length new ≡ length counts → ((k n : ℕ) → slice_get new k ≡ Some n → IsCount v (tried_at v k) n) → AreCounts w counts → AreCounts v new
new-counts w v counts new t l h c = record { all = l ∙ c.all ∙ ap (λ (x : Layout). length x.switches) (sym t); each = h }

-- one was
pub one-count : (w v : WorldValue) (p : ℕ) (counts new : List ℕ) → v.topology ≡ w.topology → ((s : ℕ) → s ≢ p → SameAt s w v) → length new ≡ length counts → ((n : ℕ) → slice_get new p ≡ Some n → IsCount v (tried_at v p) n) →
    ((k : ℕ) → k ≢ p → slice_get new k ≡ slice_get counts k) → AreCounts w counts → AreCounts v new
one-count w v p counts new t same l here others c = record {
  all = l ∙ c.all ∙ ap (λ (x : Layout). length x.switches) (sym t);
  each = λ k n e. elim (ℕ_discrete k p) [
    | yes d ↦ subst (λ (j : ℕ). IsCount v (tried_at v j) n) (sym d) (here n (ap (λ (j : ℕ). slice_get new j) (sym d) ∙ e))
    | no d ↦ kept-count k n w v (same k d) (c.each k n (sym (others k d) ∙ e))
  ];
}

-- ---- events

-- a switch and its channels have changed, and of the coordinator at most its part of it
changed-end : (w v : WorldValue) (p : ℕ) (d : Control) (old new : WiredSwitch) → v.fleet ≡ record { control = d; wired = slice_set w.fleet.wired p new } → slice_get w.fleet.wired p ≡ Some old → d.halt ≡ w.fleet.control.halt →
    ((s : ℕ) → s ≢ p → slice_get d.peers s ≡ slice_get w.fleet.control.peers s) → (s : ℕ) → s ≢ p → SameAt s w v
changed-end w v p d old new e here halt peers s n = record {
  halt = ap (λ (x : Fleet). x.control.halt) e ∙ halt;
  end_ = ap (λ (x : Fleet). slice_get x.wired s) e ∙ (put-set p w.fleet.wired old new here).others s n;
  peer = ap (λ (x : Fleet). slice_get x.control.peers s) e ∙ peers s n;
}

pub sent-others : (w v : WorldValue) (p : ℕ) → Step w (event.Controller (of_controller.Send p)) v → (s : ℕ) → s ≢ p → SameAt s w v
sent-others w v p h =
    let t = h.step in
    changed-end w v p t.control t.old _ (ap (λ (x : WorldValue). x.fleet) h.now ∙ t.now) t.here (ap (λ (x : Control). x.halt) t.sent.now)
    (λ s n. ap (λ (x : Control). slice_get x.peers s) t.sent.now ∙ (put-set p w.fleet.control.peers t.sent.peer _ t.sent.here).others s n)

pub taken-others : (w v : WorldValue) (p : ℕ) → Step w (event.Switch (of_switch.Take p)) v → (s : ℕ) → s ≢ p → SameAt s w v
taken-others w v p h = changed-end w v p w.fleet.control h.step.old _ (ap (λ (x : WorldValue). x.fleet) h.now ∙ h.step.now) h.step.here refl (λ s n. refl)

pub applied-others : (w v : WorldValue) (p k : ℕ) → Step w (event.Switch (of_switch.Apply p k)) v → (s : ℕ) → s ≢ p → SameAt s w v
applied-others w v p k h = changed-end w v p w.fleet.control h.step.old _ (ap (λ (x : WorldValue). x.fleet) h.now ∙ h.step.now) h.step.here refl (λ s n. refl)

pub replied-others : (w v : WorldValue) (p : ℕ) → Step w (event.Switch (of_switch.Reply p)) v → (s : ℕ) → s ≢ p → SameAt s w v
replied-others w v p h = changed-end w v p w.fleet.control h.step.old _ (ap (λ (x : WorldValue). x.fleet) h.now ∙ h.step.now) h.step.here refl (λ s n. refl)

-- no event changes the topology
pub step-topology : (w : WorldValue) (e : Event) (v : WorldValue) → Step w e v → v.topology ≡ w.topology
step-topology w (event.Controller of_controller.Begin) v h = ap (λ (x : WorldValue). x.topology) h.now
step-topology w (event.Controller (of_controller.Send s)) v h = ap (λ (x : WorldValue). x.topology) h.now
step-topology w (event.Switch (of_switch.Take s)) v h = ap (λ (x : WorldValue). x.topology) h.now
step-topology w (event.Switch (of_switch.Apply s k)) v h = ap (λ (x : WorldValue). x.topology) h.now
step-topology w (event.Switch (of_switch.Reply s)) v h = ap (λ (x : WorldValue). x.topology) h.now
step-topology w (event.Controller (of_controller.Heard s)) v h = ap (λ (x : WorldValue). x.topology) h.now
step-topology w (event.Packet (of_packet.Arrive pk tag)) v h = ap (λ (x : WorldValue). x.topology) h.now
step-topology w (event.Packet (of_packet.Hop k)) v h = ap (λ (x : WorldValue). x.topology) h.now
step-topology w (event.Controller (of_controller.Drained stamp)) v h = ap (λ (x : WorldValue). x.topology) h.step.now
step-topology w (event.Controller (of_controller.Lost s)) v h = ap (λ (x : WorldValue). x.topology) h.now
step-topology w (event.Controller (of_controller.Rejoin s)) v h = ap (λ (x : WorldValue). x.topology) h.now
step-topology w (event.Packet (of_packet.Stuck k)) v h = ap (λ (x : WorldValue). x.topology) h.now
step-topology w (event.Foreign s side got) v h = ap (λ (x : WorldValue). x.topology) h.now

-- ---- what the coordinator hears

-- no phase of flips is followed by itself
if-never : {X : Type 0} (b : Bool) (x y z : X) → (x ≡ z → ⊥) → (y ≡ z → ⊥) → (if b then x else y) ≡ z → ⊥
if-never true x y z f g q = f q
if-never false x y z f g q = g q

flipped-installs : (overlap : Option ℕ) (i : ℕ) → flipped overlap i ≡ Install i → ⊥
flipped-installs None i q = if-never (i == 1) (Idle 1) (Drain i) (Install i) (λ e. cc) (λ e. cc) q
flipped-installs (Some stamps) i q = if-never ((i == 1) || (i % 2 == 0)) (Idle i) (Tidy i) (Install i) (λ e. cc) (λ e. cc) q

flipped-flips : (overlap : Option ℕ) (i r : ℕ) → flipped overlap i ≡ Flip i r → ⊥
flipped-flips None i r q = if-never (i == 1) (Idle 1) (Drain i) (Flip i r) (λ e. cc) (λ e. cc) q
flipped-flips (Some stamps) i r q = if-never ((i == 1) || (i % 2 == 0)) (Idle i) (Tidy i) (Flip i r) (λ e. cc) (λ e. cc) q

round-in : Phase → ℕ
round-in (Flip i r) = r
round-in _ = 0

next-round : (i r : ℕ) → Flip i (r + 1) ≡ Flip i r → ⊥
unfolding round-in
next-round i r q = let same : r + 1 ≡ r = ap round-in q in omega (arith, same)

-- a phase with a batch is not the one after it
no-next : (overlap : Option ℕ) (rounds : List ℕ) (ph : Phase) → works ph ≡ true → acknowledged overlap rounds ph ≡ ph → ⊥
no-next overlap rounds (Idle i) w q = cc
no-next overlap rounds (Drain i) w q = cc
no-next overlap rounds Opening w q = cc
no-next overlap rounds (Clean i) w q = cc
no-next overlap rounds (Tidy i) w q = cc
no-next overlap rounds (Sweep i v) w q = cc
no-next overlap rounds (Install i) w q = if-never (nat_lt 0 (get_or rounds (i - 1) 0)) (Flip i 1) (flipped overlap i) (Install i) (λ e. cc) (λ e. flipped-installs overlap i e) q
no-next overlap rounds (Flip i r) w q = if-never (nat_lt r (get_or rounds (i - 1) 0)) (Flip i (r + 1)) (flipped overlap i) (Flip i r) (λ e. next-round i r e) (λ e. flipped-flips overlap i r e) q

-- the coordinator has the same peers as before, and is halted if it was
record SamePeers (c d : Control) : Type 0 where
  halt : d.halt ≡ c.halt
  peers : d.peers ≡ c.peers

same-all : (c d : Control) → d ≡ c → SamePeers c d
same-all c d e = record { halt = ap (λ (x : Control). x.halt) e; peers = ap (λ (x : Control). x.peers) e }

-- a reply to a barrier that does not end the phase
same-answered : (place xid : ℕ) (c d : Control) → IsAnswered place xid c d → d.phase ≡ c.phase → works c.phase ≡ true → SamePeers c d
same-answered place xid c d a same w = elim (awaits-or-not c.replies place xid) [
  | inr n ↦ same-all c d (a.stray n)
  | inl y ↦ elim (below-either c.replies place (length c.replies)) [
    | inl h ↦ absurd (no-next c.overlap (rounds_of c.versions) c.phase w (sym (ap (λ (x : Control). x.phase) (a.last y h)) ∙ same))
    | inr u ↦
        let more : d ≡ record c { replies = heard_at c.replies place } = a.more y (λ (h : OthersHeard c.replies place). u.is (h u.other u.below u.differs)) in
        record { halt = ap (λ (x : Control). x.halt) more; peers = ap (λ (x : Control). x.peers) more }
  ]
]

same-moved : (place sw : ℕ) (v : Move) (c d : Control) → IsMoved place sw v c d → d.phase ≡ c.phase → works c.phase ≡ true → d.halt ≡ None → SamePeers c d
same-moved place sw (moves.Barrier xid) c d h same w runs = same-answered place xid c d h same w
same-moved place sw (moves.Failed f) c d h same w runs = absurd (let none : Some (cause.Failed sw f) ≡ None = sym (ap (λ (x : Control). x.halt) h) ∙ runs in cc)
same-moved place sw moves.Greeted c d h same w runs = same-all c d h
same-moved place sw moves.Up c d h same w runs = same-all c d h
same-moved place sw moves.Echo c d h same w runs = same-all c d h
same-moved place sw moves.Ignored c d h same w runs = same-all c d h

-- of the coordinator only the part of the switch changes that was heard, as long as a batch goes on
pub heard-others : (w v : WorldValue) (p : ℕ) (ph : Phase) → Step w (event.Controller (of_controller.Heard p)) v → w.fleet.control.phase ≡ ph → v.fleet.control.phase ≡ ph → works ph ≡ true → v.fleet.control.halt ≡ None → (s : ℕ) → s ≢ p → SameAt s w v
heard-others w v p ph h was is batch runs =
    let t = h.step in
    let c = w.fleet.control in
    let now : v.fleet ≡ record { control = t.control; wired = slice_set w.fleet.wired p (record t.old { back = t.rest }) } = ap (λ (x : WorldValue). x.fleet) h.now ∙ t.now in
    let control = ap (λ (x : Fleet). x.control) now in
    let peer = met (is_due p c) t.move (told t.message t.heard.peer) in
    let middle = record c { peers = slice_set c.peers p peer } in
    let phase : t.control.phase ≡ c.phase = sym (ap (λ (x : Control). x.phase) control) ∙ is ∙ sym was in
    let working : works c.phase ≡ true = ap works was ∙ batch in
    let halt : t.control.halt ≡ None = sym (ap (λ (x : Control). x.halt) control) ∙ runs in
    let same : SamePeers middle t.control = same-moved p t.heard.peer.sw t.move middle t.control t.heard.now phase working halt in
    changed-end w v p t.control t.old (record t.old { back = t.rest }) now t.here same.halt
    (λ s n. ap (λ (xs : List Peer). slice_get xs s) same.peers ∙ (put-set p c.peers t.heard.peer peer t.heard.here).others s n)

-- ---- the other counts

-- what no switch counts for is as it was
record SameOthers (w v : WorldValue) : Type 0 where
  flights : v.flights ≡ w.flights
  limit : v.limit ≡ w.limit
  topology : v.topology ≡ w.topology
  begins : begin_refusal v.fleet.control ≡ begin_refusal w.fleet.control
  drains : (stamp : ℕ) → drain_refusal v.fleet.control stamp ≡ drain_refusal w.fleet.control stamp
  due_is : due v.fleet.control ≡ due w.fleet.control

back-others : (w v : WorldValue) → SameOthers w v → SameOthers v w
back-others w v a = record { flights = sym a.flights; limit = sym a.limit; topology = sym a.topology; begins = sym a.begins; drains = λ stamp. sym (a.drains stamp); due_is = sym a.due_is }

hop-same : (k : ℕ) (w v : WorldValue) → SameOthers w v → MayHop k w → MayHop k v
hop-same k w v a h = record {
  flight = h.flight;
  there = ap (λ (fs : List Flight). slice_get fs k) a.flights ∙ h.there;
  limit = subst (λ (n : ℕ). h.flight.hops < n) (sym a.limit) h.limit;
}

hops-moved : (k n : ℕ) (w v : WorldValue) → SameOthers w v → AreMoved w v (hops_from k n)
hops-moved k zero w v a = tt
hops-moved k (suc n) w v a = (hop-same k w v a, hop-same k v w (back-others w v a), hops-moved (k + 1) n w v a)

arrival-same : (pk : Packet) (tag : Option ℕ) (w v : WorldValue) → SameOthers w v → IsEnabled w (event.Packet (of_packet.Arrive pk tag)) → IsEnabled v (event.Packet (of_packet.Arrive pk tag))
arrival-same pk tag w v a h = (h.0, h.1, subst (λ (t : Layout). IsIn (edges_of t) (standing pk)) (sym a.topology) h.2)

arrival-moved : (lines : List PacketLine) (w v : WorldValue) → SameOthers w v → AreMoved w v (arrival lines)
arrival-moved [] w v a = tt
arrival-moved (line ∷ lines) w v a = (arrival-same line.packet line.tag w v a, arrival-same line.packet line.tag v w (back-others w v a), tt)

drained-same : (stamp : ℕ) (w v : WorldValue) → SameOthers w v → IsEnabled w (event.Controller (of_controller.Drained stamp)) → IsEnabled v (event.Controller (of_controller.Drained stamp))
drained-same stamp w v a h = (a.drains stamp ∙ h.0, subst (λ (fs : List Flight). NoneCarries stamp fs) (sym a.flights) h.1)

report-moved : (o : Option ℕ) (w v : WorldValue) → SameOthers w v → AreMoved w v (report o)
report-moved None w v a = tt
report-moved (Some stamp) w v a = (drained-same stamp w v a, drained-same stamp v w (back-others w v a), tt)

last-moved : (lines : List PacketLine) (w v : WorldValue) → SameOthers w v → AreMoved w v (tried_last lines w)
last-moved lines w v a =
    moved-both w v (arrival lines) ((event.Controller of_controller.Begin) ∷ report (due w.fleet.control)) (arrival-moved lines w v a)
    ((λ h. a.begins ∙ h), (λ h. sym a.begins ∙ h), report-moved (due w.fleet.control) w v a)

moved-count : (w v : WorldValue) (cs : List Event) (n : ℕ) → AreMoved w v cs → IsCount w cs n → IsCount v cs n
moved-count w v cs n m c = record { events = c.events; enabled = enabled-moved w v cs c.events m c.enabled; count = c.count }

same-others : (lines : List PacketLine) (w v : WorldValue) (hops last : ℕ) → SameOthers w v → AreOthers w lines hops last → AreOthers v lines hops last
same-others lines w v hops last a c = record {
  of_hops = subst (λ (fs : List Flight). IsCount v (hops_from 0 (length fs)) hops) (sym a.flights) (moved-count w v (hops_from 0 (length w.flights)) hops (hops-moved 0 (length w.flights) w v a) c.of_hops);
  of_last = subst (λ (o : Option ℕ). IsCount v (arrival lines ++ (event.Controller of_controller.Begin) ∷ report o) last) (sym a.due_is) (moved-count w v (tried_last lines w) last (last-moved lines w v a) c.of_last);
}

-- of the fleet at most the peers, the replies and the switches have changed
fleet-others : (Does : Fleet → Fleet → Type 0) (w v : WorldValue) (h : InFleet Does w v) → begin_refusal h.fleet.control ≡ begin_refusal w.fleet.control → ((stamp : ℕ) → drain_refusal h.fleet.control stamp ≡ drain_refusal w.fleet.control stamp) →
    due h.fleet.control ≡ due w.fleet.control → SameOthers w v
fleet-others Does w v h begins drains due_is = record {
  flights = ap (λ (x : WorldValue). x.flights) h.now;
  limit = ap (λ (x : WorldValue). x.limit) h.now;
  topology = ap (λ (x : WorldValue). x.topology) h.now;
  begins = ap (λ (x : WorldValue). begin_refusal x.fleet.control) h.now ∙ begins;
  drains = λ stamp. ap (λ (x : WorldValue). drain_refusal x.fleet.control stamp) h.now ∙ drains stamp;
  due_is = ap (λ (x : WorldValue). due x.fleet.control) h.now ∙ due_is;
}

quiet-same : (w v : WorldValue) (e : Event) → ChangesOneSwitch e → Step w e v → SameOthers w v
quiet-same w v (event.Switch (of_switch.Take s)) q h =
    let t = h.step.now in
    fleet-others (TakesAt s) w v h (ap (λ (f : Fleet). begin_refusal f.control) t) (λ stamp. ap (λ (f : Fleet). drain_refusal f.control stamp) t) (ap (λ (f : Fleet). due f.control) t)
quiet-same w v (event.Switch (of_switch.Apply s k)) q h =
    let t = h.step.now in
    fleet-others (AppliesAt s k) w v h (ap (λ (f : Fleet). begin_refusal f.control) t) (λ stamp. ap (λ (f : Fleet). drain_refusal f.control stamp) t) (ap (λ (f : Fleet). due f.control) t)
quiet-same w v (event.Switch (of_switch.Reply s)) q h =
    let t = h.step.now in
    fleet-others (RepliesAt s) w v h (ap (λ (f : Fleet). begin_refusal f.control) t) (λ stamp. ap (λ (f : Fleet). drain_refusal f.control stamp) t) (ap (λ (f : Fleet). due f.control) t)
quiet-same w v (event.Controller (of_controller.Send s)) q h =
    let t = h.step.now in
    let n = h.step.sent.now in
    fleet-others (SendsAt s) w v h (ap (λ (f : Fleet). begin_refusal f.control) t ∙ ap begin_refusal n) (λ stamp. ap (λ (f : Fleet). drain_refusal f.control stamp) t ∙ ap (λ (c : Control). drain_refusal c stamp) n)
    (ap (λ (f : Fleet). due f.control) t ∙ ap due n)
quiet-same w v (event.Controller of_controller.Begin) q h = absurd q
quiet-same w v (event.Controller (of_controller.Heard s)) q h = absurd q
quiet-same w v (event.Controller (of_controller.Drained stamp)) q h = absurd q
quiet-same w v (event.Controller (of_controller.Lost s)) q h = absurd q
quiet-same w v (event.Controller (of_controller.Rejoin s)) q h = absurd q
quiet-same w v (event.Packet flow) q h = absurd q
quiet-same w v (event.Foreign s side got) q h = absurd q

quiet-left : (e : Event) (lines : List PacketLine) → ChangesOneSwitch e → left_by e lines ≡ lines
quiet-left (event.Switch act) lines q = refl
quiet-left (event.Controller control) lines q = refl
quiet-left (event.Packet flow) lines q = absurd q
quiet-left (event.Foreign s side got) lines q = absurd q

-- a quiet event changes none of the other counts
pub quiet-others : (lines left : List PacketLine) (w v : WorldValue) (e : Event) (hops last : ℕ) → left ≡ left_by e lines → ChangesOneSwitch e → Step w e v → AreOthers w lines hops last → AreOthers v left hops last
quiet-others lines left w v e hops last l q h c =
    subst (λ (ls : List PacketLine). AreOthers v ls hops last) (sym (l ∙ quiet-left e lines q)) (same-others lines w v hops last (quiet-same w v e q h) c)

-- ---- lists of counts

pub no-counts : (w : WorldValue) → length w.topology.switches ≤ 0 → AreCounts w []
no-counts w l = record { all = omega (arith, l); each = λ k n e. absurd (cc) }

-- what holds of a number that was put at a place, and what stands at the others
pub set-here : (P : ℕ → Type 0) (xs : List ℕ) (i v : ℕ) → i < length xs → P v → (n : ℕ) → slice_get (slice_set xs i v) i ≡ Some n → P n
set-here P xs i v l p n e = let old = get-some i xs l in subst P (some-is v n (sym (put-set i xs old.0 v old.1).at ∙ e)) p

pub set-others : (xs : List ℕ) (i v k : ℕ) → i < length xs → k ≢ i → slice_get (slice_set xs i v) k ≡ slice_get xs k
set-others xs i v k l d = let old = get-some i xs l in (put-set i xs old.0 v old.1).others k d

-- what holds of each number of a list before a place holds of one more, once it holds there and the others are as they were
pub each-next : (P : ℕ → ℕ → Type 0) (xs ys : List ℕ) (i : ℕ) → ((n : ℕ) → slice_get ys i ≡ Some n → P i n) → ((k : ℕ) → k ≢ i → slice_get ys k ≡ slice_get xs k) → ((k n : ℕ) → k < i → slice_get xs k ≡ Some n → P k n) →
    (k n : ℕ) → k < i + 1 → slice_get ys k ≡ Some n → P k n
each-next P xs ys i here others below k n small at = elim (ℕ_discrete k i) [
  | yes d ↦ subst (λ (j : ℕ). P j n) (sym d) (here n (ap (λ (j : ℕ). slice_get ys j) (sym d) ∙ at))
  | no d ↦ below k n (omega (arith, small, d)) (sym (others k d) ∙ at)
]

-- and of each of them, if all are before it
pub each-all : (P : ℕ → ℕ → Type 0) (xs : List ℕ) (i : ℕ) → length xs ≤ i → ((k n : ℕ) → k < i → slice_get xs k ≡ Some n → P k n) → (k n : ℕ) → slice_get xs k ≡ Some n → P k n
each-all P xs i l below k n at = below k n (omega (arith, l, get-within k xs n at)) at

-- and of each number of a longer list, where it holds of the one after the others
pub each-push : (P : ℕ → ℕ → Type 0) (xs : List ℕ) (v : ℕ) → P (length xs) v → ((k n : ℕ) → slice_get xs k ≡ Some n → P k n) → (k n : ℕ) → slice_get (xs ++ v ∷ []) k ≡ Some n → P k n
each-push P [] v here below zero n at = subst (λ (m : ℕ). P 0 m) (some-is v n at) here
each-push P [] v here below (suc k) n at = absurd (let none : None ≡ Some n = at in cc)
each-push P (x ∷ xs) v here below zero n at = below 0 n at
each-push P (x ∷ xs) v here below (suc k) n at = each-push (λ (j m : ℕ). P (suc j) m) xs v here (λ j m e. below (suc j) m e) k n at
