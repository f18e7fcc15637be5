-- Where no session was lost, no switch is away.
use Rattle.std.proofs.Common.{◌≡◌, inl, inr, ℕ, Bool, true, false, List, length, refl, sym, ◌∙◌, ap, subst, Some, slice_get, slice_set}
use native.Mathlib.Decide.{ℕ_discrete}
use Rattle.update_coordinator.specs.Sessions.{moved}
use Rattle.update_coordinator.specs.Move.{Move}
use Rattle.update_coordinator.specs.Move.TheVariants as moves
use Rattle.update_coordinator.specs.Replies.{OthersHeard, heard_at}
use Rattle.update_coordinator.specs.declared.phase.Phase.{Phase}
use Rattle.update_coordinator.specs.Controls.{Control, Peer, Order, Greet, Ask, Change, Fence, begun_peer, in_phase, returned}
use Rattle.update_coordinator.specs.Batches.{rounds_of}
use Rattle.update_coordinator.specs.Hearing.{IsMoved, again_if, due, met, told}
use Rattle.update_coordinator.specs.Phases.{acknowledged, works}
use Rattle.update_coordinator.specs.Sending.{went}
use Rattle.update_laws.specs.Fleets.{Fleet}
use Rattle.update_laws.proofs.Alike.{awaits-or-not}
use Rattle.update_laws.proofs.Places.{Put, put-set, get-map, below-either}
use Rattle.update_laws.proofs.Wiring.{some-is}
use Rattle.world_core.specs.declared.event.Event.{Event}
use Rattle.world_core.specs.declared.event.Event.TheVariants as event
use Rattle.world_core.specs.declared.event.ControllerEvent.TheVariants as of_controller
use Rattle.world_core.specs.declared.event.PacketEvent.TheVariants as of_packet
use Rattle.world_core.specs.declared.event.SwitchEvent.TheVariants as of_switch
use Rattle.world_core.specs.Laws.{is_loss}
use Rattle.world_core.specs.Steps.{Step}
use Rattle.world_core.specs.Worlds.{WorldValue}

-- no switch is away
abbrev pub ArePresent : List Peer → Type 0
ArePresent peers = (k : ℕ) (s : Peer) → slice_get peers k ≡ Some s → s.away ≡ false

put-present : (place : ℕ) (peers : List Peer) (old new : Peer) → slice_get peers place ≡ Some old → new.away ≡ old.away → ArePresent peers → ArePresent (slice_set peers place new)
put-present place peers old new here same p k s at = elim (ℕ_discrete k place) [
  | yes q ↦ ap (λ (x : Peer). x.away) (some-is s new (sym at ∙ ap (λ (i : ℕ). slice_get (slice_set peers place new) i) q ∙ put.at)) ∙ same ∙ p place old here
  | no n ↦ p k s (sym (put.others k n) ∙ at)
]
  where
    put : Put place peers new (slice_set peers place new)
    put = put-set place peers old new here

phase-present : (ph : Phase) (c : Control) → ArePresent c.peers → ArePresent (in_phase ph c).peers
phase-present ph c p k s at = let x = get-map (begun_peer (works ph)) k c.peers s at in ap (λ (y : Peer). y.away) (sym x.2) ∙ p k x.0 x.1

again-away : (b : Bool) (s : Peer) → (again_if b s).away ≡ s.away
again-away true s = refl
again-away false s = refl

met-away : (b : Bool) (v : Move) (s : Peer) → (met b v s).away ≡ s.away
met-away b moves.Greeted s = refl
met-away b moves.Up s = again-away b (record s { session = moved s.session moves.Up })
met-away b (moves.Barrier x) s = refl
met-away b moves.Echo s = refl
met-away b moves.Ignored s = refl
met-away b (moves.Failed f) s = refl

went-away : (o : Order) (s : Peer) → (went o s).away ≡ s.away
went-away Greet s = refl
went-away Ask s = refl
went-away (Change m) s = refl
went-away Fence s = refl

as-before : (c d : Control) → d ≡ c → ArePresent c.peers → ArePresent d.peers
as-before c d q p = subst (λ (x : Control). ArePresent x.peers) (sym q) p

moved-present : (place sw : ℕ) (v : Move) (c d : Control) → IsMoved place sw v c d → ArePresent c.peers → ArePresent d.peers
moved-present place sw moves.Greeted c d m p = as-before c d m p
moved-present place sw moves.Up c d m p = as-before c d m p
moved-present place sw moves.Echo c d m p = as-before c d m p
moved-present place sw moves.Ignored c d m p = as-before c d m p
moved-present place sw (moves.Failed f) c d m p = subst (λ (x : Control). ArePresent x.peers) (sym m) p
moved-present place sw (moves.Barrier x) c d m p = elim (awaits-or-not c.replies place x) [
  | inr n ↦ as-before c d (m.stray n) p
  | inl a ↦ elim (below-either c.replies place (length c.replies)) [
    | inl o ↦ as-before (in_phase (acknowledged c.overlap (rounds_of c.versions) c.phase) c) d (m.last a o) (phase-present (acknowledged c.overlap (rounds_of c.versions) c.phase) c p)
    | inr u ↦ as-before (record c { replies = heard_at c.replies place }) d (m.more a (λ (h : OthersHeard c.replies place). u.is (h u.other u.below u.differs))) p
  ]
]

-- so it stays by each event but a loss
pub present-step : (w : WorldValue) (e : Event) (v : WorldValue) → Step w e v → is_loss e ≡ false → ArePresent w.fleet.control.peers → ArePresent v.fleet.control.peers
present-step w e v s n p = to e s n
  where
    by-control : {c : Control} → v.fleet.control ≡ c → ArePresent c.peers → ArePresent v.fleet.control.peers
    by-control {c} q h = as-before c v.fleet.control q h

    to : (e : Event) → Step w e v → is_loss e ≡ false → ArePresent v.fleet.control.peers
    to (event.Controller of_controller.Begin) s n = by-control (ap (λ (x : WorldValue). x.fleet.control) s.now ∙ ap (λ (x : Fleet). x.control) s.step.now) (phase-present _ w.fleet.control p)
    to (event.Controller (of_controller.Send place)) s n =
        let t = s.step.sent in
        by-control (ap (λ (x : WorldValue). x.fleet.control) s.now ∙ ap (λ (x : Fleet). x.control) s.step.now ∙ t.now) (put-present place w.fleet.control.peers t.peer (went t.order t.peer) t.here (went-away t.order t.peer) p)
    to (event.Switch (of_switch.Take place)) s n = by-control (ap (λ (x : WorldValue). x.fleet.control) s.now ∙ ap (λ (x : Fleet). x.control) s.step.now) p
    to (event.Switch (of_switch.Apply place k)) s n = by-control (ap (λ (x : WorldValue). x.fleet.control) s.now ∙ ap (λ (x : Fleet). x.control) s.step.now) p
    to (event.Switch (of_switch.Reply place)) s n = by-control (ap (λ (x : WorldValue). x.fleet.control) s.now ∙ ap (λ (x : Fleet). x.control) s.step.now) p
    to (event.Controller (of_controller.Heard place)) s n =
        let t = s.step.heard in
        by-control (ap (λ (x : WorldValue). x.fleet.control) s.now ∙ ap (λ (x : Fleet). x.control) s.step.now)
        (moved-present place t.peer.sw s.step.move _ s.step.control t.now
        (put-present place w.fleet.control.peers t.peer (met (due place w.fleet.control) s.step.move (told s.step.message t.peer)) t.here (met-away (due place w.fleet.control) s.step.move (told s.step.message t.peer)) p))
    to (event.Packet (of_packet.Arrive pk tag)) s n = by-control (ap (λ (x : WorldValue). x.fleet.control) s.now) p
    to (event.Packet (of_packet.Hop k)) s n = by-control (ap (λ (x : WorldValue). x.fleet.control) s.now) p
    to (event.Controller (of_controller.Drained stamp)) s n = by-control (ap (λ (x : WorldValue). x.fleet.control) s.step.now ∙ ap (λ (x : Fleet). x.control) s.step.step.now) (phase-present _ w.fleet.control p)
    to (event.Controller (of_controller.Lost place)) s n = absurd (let no : true ≡ false = n in cc)
    to (event.Controller (of_controller.Rejoin place)) s n =
        let t = s.step.back in
        by-control (ap (λ (x : WorldValue). x.fleet.control) s.now ∙ ap (λ (x : Fleet). x.control) s.step.now ∙ t.now)
        (put-present place w.fleet.control.peers t.peer (returned t.peer) t.here (sym (p place t.peer t.here)) p)
    to (event.Packet (of_packet.Stuck k)) s n = by-control (ap (λ (x : WorldValue). x.fleet.control) s.now) p
    to (event.Foreign place side got) s n = by-control (ap (λ (x : WorldValue). x.fleet.control) s.now) p
