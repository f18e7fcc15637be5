-- If drains do not overlap and switches have room for 130,000 rows, no ERROR of a full table is on its way.
use Rattle.std.proofs.Common.{◌≡◌, ◌≤◌, ℕ, inl, inr, Bool, true, false, List, [], ◌∷◌, ◌++◌, map, sym, ◌∙◌, ap, subst, Option, None, Some, slice_get, slice_set}
use native.Mathlib.Decide.{ℕ_discrete}
use Rattle.nk_values.specs.Members.{IsIn}
use Rattle.nk_values.proofs.MemberLaws.{in-either}
use Rattle.openflow_wire.specs.declared.message.Message.{Message}
use Rattle.openflow_wire.specs.declared.message.Message.TheVariants as to
use Rattle.switch_model.specs.Switches.{answer_of}
use Rattle.update_laws.specs.Fleets.{WiredSwitch, Fleet}
use Rattle.update_laws.specs.Stages.{IsFullError}
use Rattle.update_laws.specs.Wired.{answered, told_back}
use Rattle.update_laws.proofs.Places.{put-set, get-map}
use Rattle.update_laws.proofs.Wiring.{some-is}
use Rattle.world_core.specs.declared.event.Event.{Event}
use Rattle.world_core.specs.declared.event.Event.TheVariants as event
use Rattle.world_core.specs.declared.event.ControllerEvent.TheVariants as of_controller
use Rattle.world_core.specs.declared.event.PacketEvent.TheVariants as of_packet
use Rattle.world_core.specs.declared.event.SwitchEvent.TheVariants as of_switch
use Rattle.world_core.specs.Ends.{new_end}
use Rattle.world_core.specs.Laws.{HasSpace, HasTableRoom}
use Rattle.world_core.specs.Worlds.{WorldValue, IsKept}
use Rattle.world_core.specs.Steps.{InFleet, Loses, Runs, Step}
use Rattle.world_core.proofs.Kept.{step-keeps}

-- none of the messages is such an error
abbrev pub NoneFull : List Message → Type 0
NoneFull ms = (m : Message) → IsIn ms m → ¬ (IsFullError m)

abbrev pub NoneIsFull : List WiredSwitch → Type 0
NoneIsFull wired = (place : ℕ) (e : WiredSwitch) → slice_get wired place ≡ Some e → NoneFull e.back

abbrev pub KeepsRoom : WorldValue → Type 0
KeepsRoom w = HasSpace w → NoneIsFull w.fleet.wired

-- ---- messages

abbrev AnswersFull : Option Message → Type 0
AnswersFull None = ⊥
AnswersFull (Some m) = IsFullError m

-- what a switch answers at once is no such error
not-full : (sw : ℕ) (m : Message) → ¬ (AnswersFull (answer_of sw m))
not-full sw (to.EchoRequest xid payload) f = let e = f.is in absurd (cc)
not-full sw (to.FeaturesRequest xid) f = let e = f.is in absurd (cc)
not-full sw (to.FlowStatsRequest xid pattern table out_port) f = let e = f.is in absurd (cc)
not-full sw (to.FlowStatsReply xid more entries) f = let e = f.is in absurd (cc)
not-full sw (to.Other number xid body) f = let e = f.is in absurd (cc)
not-full sw _ f = f

one-more : (ms : List Message) (x : Message) → NoneFull ms → ¬ (IsFullError x) → NoneFull (ms ++ x ∷ [])
one-more ms x h n m k = elim (in-either ms (x ∷ []) m k) [
  | inl a ↦ h m a
  | inr b ↦ elim b [ inl e ↦ (λ f. n (subst IsFullError (sym e) f)) | inr c ↦ absurd c ]
]

none-answered : (o : Option Message) (ms : List Message) → ¬ (AnswersFull o) → NoneFull ms → NoneFull (answered o ms)
none-answered None ms n h = h
none-answered (Some x) ms n h = one-more ms x h n

none-told : (away : Bool) (o : Option Message) (ms : List Message) → o ≡ None → NoneFull ms → NoneFull (told_back away o ms)
none-told away o ms e h = subst (λ (p : Option Message). NoneFull (told_back away p ms)) (sym e) (by_case away)
  where
    by_case : (b : Bool) → NoneFull (told_back b None ms)
    by_case true = h
    by_case false = h

hello-not-full : (xid : ℕ) → ¬ (IsFullError (to.Hello 1 xid))
hello-not-full xid f = let e = f.is in absurd (cc)

barrier-not-full : (xid : ℕ) → ¬ (IsFullError (to.BarrierReply xid))
barrier-not-full xid f = let e = f.is in absurd (cc)

one-hello : (xid : ℕ) → NoneFull (to.Hello 1 xid ∷ [])
one-hello xid m (inl e) = λ f. hello-not-full xid (subst IsFullError (sym e) f)
one-hello xid m (inr k) = absurd k

none-yet : NoneFull []
none-yet m k = absurd k

-- ---- switches

-- one switch has other messages on their way back
set-back : (wired : List WiredSwitch) (place : ℕ) (old new : WiredSwitch) → slice_get wired place ≡ Some old → NoneIsFull wired → NoneFull new.back → NoneIsFull (slice_set wired place new)
set-back wired place old new here h n j e q =
    let put = put-set place wired old new here in
    elim (ℕ_discrete j place) [
      | yes d ↦ subst (λ (x : WiredSwitch). NoneFull x.back) (some-is new e (sym put.at ∙ ap (λ (i : ℕ). slice_get (slice_set wired place new) i) (sym d) ∙ q)) n
      | no d ↦ h j e (sym (put.others j d) ∙ q)
    ]

-- ---- events

abbrev In_fleet : WorldValue → Fleet → Type 0
In_fleet w f = HasSpace w → NoneIsFull f.wired

in-fleet : (w v : WorldValue) (f : Fleet) → v ≡ record w { fleet = f } → In_fleet w f → KeepsRoom v
in-fleet w v f now h = subst KeepsRoom (sym now) h

-- the switches become these
ends-are : (w v : WorldValue) (f : Fleet) (wired : List WiredSwitch) → v ≡ record w { fleet = f } → f.wired ≡ wired → (HasSpace w → NoneIsFull wired) → KeepsRoom v
ends-are w v f wired now e h = in-fleet w v f now (λ l. subst NoneIsFull (sym e) (h l))

lost-room : (place : ℕ) (w v : WorldValue) → InFleet (Loses place) w v → KeepsRoom w → KeepsRoom v
lost-room place w v s h = elim s.step [
  | inl t ↦ ends-are w v s.fleet _ s.now (ap (λ (f : Fleet). f.wired) t.now) (λ l. set-back w.fleet.wired place t.old _ t.here (h l) none-yet)
  | inr t ↦ ends-are w v s.fleet w.fleet.wired s.now (ap (λ (f : Fleet). f.wired) t.now) h
]

step-room : HasTableRoom → (w : WorldValue) (e : Event) (v : WorldValue) → IsKept w → Step w e v → KeepsRoom w → KeepsRoom v
step-room room w (event.Controller of_controller.Begin) v k s h = ends-are w v s.fleet w.fleet.wired s.now (ap (λ (f : Fleet). f.wired) s.step.now) h
step-room room w (event.Controller (of_controller.Send p)) v k s h =
    ends-are w v s.fleet _ s.now (ap (λ (f : Fleet). f.wired) s.step.now) (λ l. set-back w.fleet.wired p s.step.old _ s.step.here (h l) (h l p s.step.old s.step.here))
step-room room w (event.Switch (of_switch.Take p)) v k s h =
    ends-are w v s.fleet _ s.now (ap (λ (f : Fleet). f.wired) s.step.now)
    (λ l. set-back w.fleet.wired p s.step.old _ s.step.here (h l)
    (none-answered (answer_of s.step.old.switch.sw s.step.message) s.step.old.back (not-full s.step.old.switch.sw s.step.message) (h l p s.step.old s.step.here)))
step-room room w (event.Switch (of_switch.Apply p n)) v k s h =
    ends-are w v s.fleet _ s.now (ap (λ (f : Fleet). f.wired) s.step.now)
    (λ l. set-back w.fleet.wired p s.step.old _ s.step.here (h l)
    (none-told s.step.peer.away s.step.answer s.step.old.back (room w p n v k l s) (h l p s.step.old s.step.here)))
step-room room w (event.Switch (of_switch.Reply p)) v k s h =
    ends-are w v s.fleet _ s.now (ap (λ (f : Fleet). f.wired) s.step.now)
    (λ l. set-back w.fleet.wired p s.step.old _ s.step.here (h l)
    (one-more s.step.old.back s.step.answer (h l p s.step.old s.step.here) (λ f. barrier-not-full s.step.step.xid (subst IsFullError s.step.step.reply f))))
step-room room w (event.Controller (of_controller.Heard p)) v k s h =
    ends-are w v s.fleet _ s.now (ap (λ (f : Fleet). f.wired) s.step.now)
    (λ l. set-back w.fleet.wired p s.step.old _ s.step.here (h l) (λ m i. h l p s.step.old s.step.here m (subst (λ (ms : List Message). IsIn ms m) (sym s.step.front) (inr i))))
step-room room w (event.Packet (of_packet.Arrive pk tag)) v k s h = subst KeepsRoom (sym s.now) h
step-room room w (event.Packet (of_packet.Hop n)) v k s h = subst KeepsRoom (sym s.now) h
step-room room w (event.Controller (of_controller.Drained stamp)) v k s h = ends-are w v s.step.fleet w.fleet.wired s.step.now (ap (λ (f : Fleet). f.wired) s.step.step.now) h
step-room room w (event.Controller (of_controller.Lost p)) v k s h = lost-room p w v s h
step-room room w (event.Controller (of_controller.Rejoin p)) v k s h =
    ends-are w v s.fleet _ s.now (ap (λ (f : Fleet). f.wired) s.step.now) (λ l. set-back w.fleet.wired p s.step.old _ s.step.here (h l) (one-hello 0))
step-room room w (event.Packet (of_packet.Stuck n)) v k s h = subst KeepsRoom (sym s.now) h
step-room room w (event.Foreign p side got) v k s h = subst KeepsRoom (sym s.now) h

pub runs-room : HasTableRoom → (w : WorldValue) (es : List Event) (v : WorldValue) → IsKept w → Runs w es v → KeepsRoom w → KeepsRoom v
runs-room room w [] v k r h = subst KeepsRoom r h
runs-room room w (e ∷ es) v k r h = runs-room room r.0 es v (step-keeps w e r.0 r.1 k) r.2 (step-room room w e r.0 k r.1 h)

pub start-room : (capacity : ℕ) (ns : List ℕ) → NoneIsFull (map (new_end capacity) ns)
start-room capacity ns place e q =
    let x = get-map (new_end capacity) place ns e q in
    subst (λ (y : WiredSwitch). NoneFull y.back) x.2 (one-hello 0)
