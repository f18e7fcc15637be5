-- Nothing that is drawn halts the updates: where there is room for the rows of two versions no switch sends an ERROR.
use Rattle.std.proofs.Common.{◌≡◌, ℕ, Bool, true, false, if◌then◌else◌, ◌==◌, inl, inr, List, [], ◌∷◌, ◌++◌, length, Option, None, Some, is_some, slice_get, slice_set, refl, sym, ◌∙◌, ap, subst, arith}
use native.Mathlib.Decide.{ℕ_discrete}
use Rattle.nk_values.specs.declared.row.FlowMod.{FlowMod}
use Rattle.nk_values.specs.Members.{IsIn}
use Rattle.nk_values.proofs.MemberLaws.{in-either, in-left, in-right}
use Rattle.openflow_wire.specs.declared.message.Message.{Message}
use Rattle.openflow_wire.specs.declared.message.Message.TheVariants as to
use Rattle.update_coordinator.specs.Move.{Move}
use Rattle.update_coordinator.specs.Move.TheVariants as moves
use Rattle.update_coordinator.specs.SessionState.{SessionState}
use Rattle.update_coordinator.specs.SessionState.TheVariants as state
use Rattle.update_coordinator.specs.SessionFault.{SessionFault}
use Rattle.update_coordinator.specs.SessionFault.TheVariants.{Incompatible, WrongSwitch, SwitchError}
use Rattle.update_coordinator.specs.Sessions.{move_of, move_in, anywhere}
use Rattle.update_laws.specs.Switches.{answer_of, taken}
use Rattle.update_coordinator.specs.Replies.{Awaits}
use Rattle.update_coordinator.specs.BarrierState.{BarrierState}
use Rattle.update_coordinator.specs.declared.cause.Cause.{Cause}
use Rattle.update_coordinator.specs.Controls.{Control}
use Rattle.update_coordinator.specs.Hearing.{IsMoved}
use Rattle.update_laws.specs.Wired.{Wire, answered, told_back}
use Rattle.update_laws.specs.Stages.{Stage, Away, Meeting, Asking, Telling, Sending, Waiting, Answered, Resting, IsFullError, IsLine, Said, Voice, state_of}
use Rattle.update_laws.specs.Updates.{Setting, Phase}
use Rattle.update_laws.specs.Fleets.{WiredSwitch, Fleet, wire_of, TakesAt, HearsAt, IsFleet}
use Rattle.update_laws.proofs.Fleets.{Here, end-here}
use Rattle.update_laws.proofs.Hearing.{HeardLine, hear-line}
use Rattle.update_laws.proofs.Places.{Put, put-set, below-either}
use Rattle.update_laws.proofs.Wiring.{some-is}
use Rattle.world_core.specs.declared.event.Event.{Event}
use Rattle.world_core.specs.declared.event.Event.TheVariants as event
use Rattle.world_core.specs.declared.event.ControllerEvent.TheVariants as of_controller
use Rattle.world_core.specs.declared.event.PacketEvent.TheVariants as of_packet
use Rattle.world_core.specs.declared.event.SwitchEvent.TheVariants as of_switch
use Rattle.world_core.specs.Laws.{HasSpace, HasTableRoom}
use Rattle.world_core.specs.Steps.{InFleet, Step}
use Rattle.world_core.specs.Worlds.{WorldValue, setting, IsKept}
use Rattle.world_core.proofs.Kept.{line-at, step-keeps}
use Rattle.world_core.proofs.Presence.{ArePresent, present-step}
use Rattle.world_core.proofs.Sessions.{untold}

-- the message is an ERROR
abbrev pub IsError : Message → Type 0
IsError (to.Error xid form code payload) = Unit {0}
IsError _ = ⊥

-- ---- an ERROR on its way is that of a full table

pub no-error : (x m : Message) (ms : List Message) → ms ≡ x ∷ [] → (IsError x → ⊥) → IsIn ms m → IsError m → ⊥
no-error x m ms e n i r = of (subst (λ (ys : List Message). IsIn ys m) e i)
  where
    of : IsIn (x ∷ []) m → ⊥
    of (inl d) = n (subst IsError (sym d) r)
    of (inr d) = d

-- what a switch says beside ERRORs is none
said-none : (st : Stage) (sw : ℕ) (said : List Message) → Said st sw said → (m : Message) → IsIn said m → IsError m → ⊥
said-none Away sw said w m i r = subst (λ (ys : List Message). IsIn ys m) w i
said-none (Meeting n left) sw said w m i r = no-error (to.Hello 1 w.0) m said w.1 (λ x. x) i r
said-none (Asking n left) sw said w m i r = subst (λ (ys : List Message). IsIn ys m) w i
said-none Telling sw said w m i r = no-error (to.FeaturesReply w.0 sw 0 1 1 1787 []) m said w.1 (λ x. x) i r
said-none (Sending n left) sw said w m i r = subst (λ (ys : List Message). IsIn ys m) w i
said-none (Waiting x) sw said w m i r = subst (λ (ys : List Message). IsIn ys m) w i
said-none (Answered x) sw said w m i r = no-error (to.BarrierReply x) m said w (λ y. y) i r
said-none Resting sw said w m i r = subst (λ (ys : List Message). IsIn ys m) w i

in-errors : (st : Stage) (sw : ℕ) (held : List FlowMod) (errors back : List Message) → Voice st sw held errors back → (m : Message) → IsIn back m → IsError m → IsIn errors m
in-errors st sw held errors back v m i r = elim (in-either v.before (v.said ++ v.behind) m (subst (λ (ys : List Message). IsIn ys m) v.is i)) [
  | inl j ↦ subst (λ (ys : List Message). IsIn ys m) (sym v.parts) (in-left v.before v.behind m j)
  | inr j ↦ elim (in-either v.said v.behind m j) [
    | inl k ↦ absurd (said-none st sw v.said v.what m k r)
    | inr k ↦ subst (λ (ys : List Message). IsIn ys m) (sym v.parts) (in-right v.before v.behind m k)
  ]
]

full-error : (c : Setting) (swept : ℕ) (ph : Phase) (h : Bool) (l : Wire) → IsLine c swept ph h l → (m : Message) → IsIn l.back m → IsError m → IsFullError m
full-error c swept ph h l i m j r = i.full m (in-errors i.stage l.switch.sw i.held i.errors l.back i.voice m j r)

-- what a switch answers at once is no such ERROR
abbrev form-of : Message → ℕ
form-of (to.Error xid form code payload) = form
form-of _ = 0

some-form : (x m : Message) → Some x ≡ Some m → form-of x ≡ form-of m
some-form x m e = ap form-of (some-is x m e)

other-form : (m : Message) (form : ℕ) → form ≡ form-of m → (form ≡ 3 → ⊥) → IsFullError m → ⊥
other-form m form e n f = n (e ∙ ap form-of f.is)

at-once : (sw : ℕ) (x m : Message) → answer_of sw x ≡ Some m → IsError m → IsFullError m → ⊥
at-once sw (to.EchoRequest xid payload) m e r f = subst IsError (sym (some-is _ m e)) r
at-once sw (to.FeaturesRequest xid) m e r f = subst IsError (sym (some-is _ m e)) r
at-once sw (to.FlowStatsRequest xid pattern table out_port) m e r f = other-form m 1 (some-form _ m e) (λ d. omega (arith, d)) f
at-once sw (to.FlowStatsReply xid more entries) m e r f = other-form m 1 (some-form _ m e) (λ d. omega (arith, d)) f
at-once sw (to.Other number xid body) m e r f = other-form m 1 (some-form _ m e) (λ d. omega (arith, d)) f
at-once sw _ m e r f = absurd (let n : None ≡ Some m = e in cc)

-- ---- a message that is no ERROR does not halt

anywhere-no : (m : Message) → ¬ (IsError m) → anywhere m ≡ moves.Failed (SwitchError 3 0) → ⊥
anywhere-no (to.Error xid form code payload) n z = n tt
anywhere-no (to.EchoRequest xid payload) n z = absurd (cc)
anywhere-no _ n z = absurd (cc)

greeting-no : (b : Bool) → (if b then moves.Failed Incompatible else moves.Greeted) ≡ moves.Failed (SwitchError 3 0) → ⊥
greeting-no true z = absurd (cc)
greeting-no false z = absurd (cc)

features-no : (b : Bool) (f : SessionFault) → (f ≡ SwitchError 3 0 → ⊥) → (if b then moves.Up else moves.Failed f) ≡ moves.Failed (SwitchError 3 0) → ⊥
features-no true f n z = absurd (cc)
features-no false f n z = n (same f (SwitchError 3 0) z)
  where
    same : (f g : SessionFault) → moves.Failed f ≡ moves.Failed g → f ≡ g
    same f g e = cc

-- the session has not failed
abbrev IsLive : SessionState → Type 0
IsLive (state.Failed fault) = ⊥
IsLive _ = Unit {0}

no-fault : (x : SessionState) (d : ℕ) (m : Message) → IsLive x → ¬ (IsError m) → move_in x d m ≡ moves.Failed (SwitchError 3 0) → ⊥
no-fault (state.Failed fault) d m l n z = l
no-fault state.Fresh d (to.Hello version xid) l n z = greeting-no (version == 0) z
no-fault state.Fresh d m l n z = anywhere-no m n z
no-fault state.Greeted d (to.FeaturesReply xid got a b e g ports) l n z = features-no (got == d) (WrongSwitch d got) (λ q. absurd (cc)) z
no-fault state.Greeted d m l n z = anywhere-no m n z
no-fault state.Up d (to.BarrierReply xid) l n z = absurd (cc)
no-fault state.Up d m l n z = anywhere-no m n z

live-at : (st : Stage) → IsLive (state_of st)
live-at Away = tt
live-at (Meeting n left) = tt
live-at (Asking n left) = tt
live-at Telling = tt
live-at (Sending n left) = tt
live-at (Waiting x) = tt
live-at (Answered x) = tt
live-at Resting = tt

moved-halt : (place sw : ℕ) (move : Move) (c d : Control) → ((f : SessionFault) → move ≡ moves.Failed f → ⊥) → ((x : ℕ) → move ≡ moves.Barrier x → Awaits c.replies place x) → IsMoved place sw move c d → d.halt ≡ c.halt
moved-halt place sw moves.Greeted c d n a m = ap (λ (x : Control). x.halt) m
moved-halt place sw moves.Up c d n a m = ap (λ (x : Control). x.halt) m
moved-halt place sw moves.Echo c d n a m = ap (λ (x : Control). x.halt) m
moved-halt place sw moves.Ignored c d n a m = ap (λ (x : Control). x.halt) m
moved-halt place sw (moves.Failed f) c d n a m = absurd (n f refl)
moved-halt place sw (moves.Barrier x) c d n a m = elim (below-either c.replies place (length c.replies)) [
  | inl o ↦ ap (λ (y : Control). y.halt) (m.last (a x refl) o)
  | inr u ↦ ap (λ (y : Control). y.halt) (m.more (a x refl) (λ h. u.is (h u.other u.below u.differs)))
]

-- ---- all switches

-- no ERROR is on its way
abbrev pub AreMute : List WiredSwitch → Type 0
AreMute es = (place : ℕ) (e : WiredSwitch) → slice_get es place ≡ Some e → (m : Message) → IsIn e.back m → ¬ (IsError m)

mute-put : (place : ℕ) (es : List WiredSwitch) (old new : WiredSwitch) → slice_get es place ≡ Some old → ((m : Message) → IsIn new.back m → ¬ (IsError m)) → AreMute es → AreMute (slice_set es place new)
mute-put place es old new here quiet mute k e at m i = elim (ℕ_discrete k place) [
  | yes d ↦ quiet m (subst (λ (x : WiredSwitch). IsIn x.back m) (some-is e new (sym at ∙ ap (λ (j : ℕ). slice_get (slice_set es place new) j) d ∙ p.at)) i)
  | no d ↦ mute k e (sym (p.others k d) ∙ at) m i
]
  where
    p : Put place es new (slice_set es place new)
    p = put-set place es old new here

false-true : {P : Type 0} → false ≡ true → P
false-true e = absurd (cc)

-- what is heard does not halt
hears-on : (c : Setting) (place : ℕ) (f g : Fleet) → HearsAt place f g → IsFleet c f → AreMute f.wired → g.control.halt ≡ None
hears-on c place f g h i mute = ap (λ (z : Fleet). z.control.halt) h.now ∙ moved-halt place h.heard.peer.sw h.move _ h.control fails owed h.heard.now ∙ h.heard.running
  where
    there : Here f place
    there = end-here c f i place h.old h.here

    l : Wire
    l = wire_of f.control h.heard.peer there.reply h.old

    line : IsLine c f.control.swept f.control.phase false l
    line = subst (λ (b : Bool). IsLine c f.control.swept f.control.phase b l) (ap (λ (o : Option Cause). is_some o) h.heard.running) (i.lines place h.heard.peer there.reply h.old h.heard.here there.reply_at h.here)

    heard : HeardLine c f.control.swept f.control.phase h.message h.rest l
    heard = hear-line c f.control.swept f.control.phase h.message h.rest l h.front line

    quiet : ¬ (IsError h.message)
    quiet = mute place h.old h.here h.message (subst (λ (ms : List Message). IsIn ms h.message) (sym h.front) (inl refl))

    live : IsLive h.heard.peer.session.state
    live = elim line.standing.state [ inl e ↦ false-true e | inr e ↦ subst IsLive (sym e) (live-at line.stage) ]

    fails : (x : SessionFault) → h.move ≡ moves.Failed x → ⊥
    fails x q =
        let move : move_of h.heard.peer.session h.message ≡ moves.Failed x = sym h.heard.is ∙ q in
        no-fault h.heard.peer.session.state h.heard.peer.session.datapath h.message live quiet (move ∙ ap moves.Failed (heard.fault x (sym heard.is ∙ move)))

    owed : (x : ℕ) → h.move ≡ moves.Barrier x → Awaits f.control.replies place x
    owed x q = there.reply_at ∙ ap (λ (r : BarrierState). Some r) (heard.owed x (sym heard.is ∙ sym h.heard.is ∙ q))

-- ---- events

-- the updates have not halted, no switch is away, and nothing on its way halts them
pub record IsFree (w : WorldValue) : Type 0 where
  pub kept : IsKept w
  pub room : HasSpace w
  pub running : w.fleet.control.halt ≡ None
  pub present : ArePresent w.fleet.control.peers
  pub mute : AreMute w.fleet.wired

-- all events but the loss and the return of a session, a stuck copy, and bytes that are not the front of a channel
abbrev pub IsDrivable : Event → Type 0
IsDrivable (event.Controller (of_controller.Lost s)) = ⊥
IsDrivable (event.Controller (of_controller.Rejoin s)) = ⊥
IsDrivable (event.Packet (of_packet.Stuck k)) = ⊥
IsDrivable (event.Foreign s side got) = ⊥
IsDrivable _ = Unit {0}

free-in : (Does : Fleet → Fleet → Type 0) (w v : WorldValue) (h : InFleet Does w v) → IsFree w → IsKept v → ArePresent v.fleet.control.peers → h.fleet.control.halt ≡ None → AreMute h.fleet.wired → IsFree v
free-in Does w v h f k present running mute = record {
  kept = k;
  present = present;
  room = subst (λ (x : WorldValue). HasSpace x) (sym h.now) f.room;
  running = ap (λ (x : WorldValue). x.fleet.control.halt) h.now ∙ running;
  mute = subst (λ (x : WorldValue). AreMute x.fleet.wired) (sym h.now) mute;
}

full-of : (v : WorldValue) → IsKept v → (place : ℕ) (e : WiredSwitch) → slice_get v.fleet.wired place ≡ Some e → (m : Message) → IsIn e.back m → IsError m → IsFullError m
unfolding IsKept
full-of v k place e here m i r =
    let l = line-at v k place e here in
    full-error (setting v) v.fleet.control.swept v.fleet.control.phase (is_some v.fleet.control.halt) (wire_of v.fleet.control l.0 l.1 e) l.2 m i r

-- a switch has taken a message
takes-mute : (w v : WorldValue) (s : ℕ) (h : InFleet (TakesAt s) w v) → IsFree w → IsKept v → AreMute h.fleet.wired
takes-mute w v s h f k = subst (λ (x : Fleet). AreMute x.wired) (sym t.now) (mute-put s w.fleet.wired t.old new t.here quiet f.mute)
  where
    t : TakesAt s w.fleet h.fleet
    t = h.step

    new : WiredSwitch
    new = record { there = t.rest; back = answered (answer_of t.old.switch.sw t.message) t.old.back; switch = taken t.message t.old.switch }

    there : slice_get v.fleet.wired s ≡ Some new
    there = ap (λ (x : WorldValue). slice_get x.fleet.wired s) h.now ∙ ap (λ (x : Fleet). slice_get x.wired s) t.now ∙ (put-set s w.fleet.wired t.old new t.here).at

    full : (m : Message) → IsIn new.back m → IsError m → IsFullError m
    full = full-of v k s new there

    by_answer : (o : Option Message) → answer_of t.old.switch.sw t.message ≡ o → (m : Message) → IsIn (answered o t.old.back) m → (IsError m → IsFullError m) → IsError m → ⊥
    by_answer None e m i g r = f.mute s t.old t.here m i r
    by_answer (Some x) e m i g r = elim (in-either t.old.back (x ∷ []) m i) [
      | inl j ↦ f.mute s t.old t.here m j r
      | inr j ↦ elim j [ inl d ↦ at-once t.old.switch.sw t.message m (e ∙ ap (λ (y : Message). Some y) d) r (g r) | inr d ↦ d ]
    ]

    quiet : (m : Message) → IsIn new.back m → ¬ (IsError m)
    quiet m i r = by_answer (answer_of t.old.switch.sw t.message) refl m i (full m i) r

heard-on : (w : WorldValue) (p : ℕ) (g : Fleet) → HearsAt p w.fleet g → AreMute w.fleet.wired → IsKept w → g.control.halt ≡ None
unfolding IsKept
heard-on w p g h mute k = hears-on (setting w) p w.fleet g h k.fleet mute

-- so an event that is drawn leaves them, where no flow mod meets a full table
pub free-step : HasTableRoom → (w : WorldValue) (e : Event) (v : WorldValue) → IsDrivable e → Step w e v → IsFree w → IsFree v
free-step room w (event.Controller of_controller.Begin) v d s f =
    free-in _ w v s f (step-keeps w (event.Controller of_controller.Begin) v s f.kept) (present-step w (event.Controller of_controller.Begin) v s refl f.present) (ap (λ (x : Fleet). x.control.halt) s.step.now ∙ f.running) (subst (λ (x : Fleet). AreMute x.wired) (sym s.step.now) f.mute)
free-step room w (event.Controller (of_controller.Send p)) v d s f =
    let t = s.step in
    free-in _ w v s f (step-keeps w (event.Controller (of_controller.Send p)) v s f.kept) (present-step w (event.Controller (of_controller.Send p)) v s refl f.present) (ap (λ (x : Fleet). x.control.halt) t.now ∙ ap (λ (x : Control). x.halt) t.sent.now ∙ f.running)
    (subst (λ (x : Fleet). AreMute x.wired) (sym t.now) (mute-put p w.fleet.wired t.old (record t.old { there = t.old.there ++ t.message ∷ [] }) t.here (f.mute p t.old t.here) f.mute))
free-step room w (event.Switch (of_switch.Take p)) v d s f =
    let k = step-keeps w (event.Switch (of_switch.Take p)) v s f.kept in
    free-in _ w v s f k (present-step w (event.Switch (of_switch.Take p)) v s refl f.present) (ap (λ (x : Fleet). x.control.halt) s.step.now ∙ f.running) (takes-mute w v p s f k)
free-step room w (event.Switch (of_switch.Apply p n)) v d s f =
    let t = s.step in
    let back : told_back t.peer.away t.answer t.old.back ≡ t.old.back = ap (λ (o : Option Message). told_back t.peer.away o t.old.back) (room w p n v f.kept f.room s) ∙ untold t.peer.away t.old.back in
    free-in _ w v s f (step-keeps w (event.Switch (of_switch.Apply p n)) v s f.kept) (present-step w (event.Switch (of_switch.Apply p n)) v s refl f.present) (ap (λ (x : Fleet). x.control.halt) t.now ∙ f.running)
    (subst (λ (x : Fleet). AreMute x.wired) (sym t.now) (mute-put p w.fleet.wired t.old (record t.old { back = told_back t.peer.away t.answer t.old.back; switch = t.switch }) t.here
    (λ m i. f.mute p t.old t.here m (subst (λ (ms : List Message). IsIn ms m) back i)) f.mute))
free-step room w (event.Switch (of_switch.Reply p)) v d s f =
    let t = s.step in
    free-in _ w v s f (step-keeps w (event.Switch (of_switch.Reply p)) v s f.kept) (present-step w (event.Switch (of_switch.Reply p)) v s refl f.present) (ap (λ (x : Fleet). x.control.halt) t.now ∙ f.running)
    (subst (λ (x : Fleet). AreMute x.wired) (sym t.now) (mute-put p w.fleet.wired t.old (record t.old { back = t.old.back ++ t.answer ∷ []; switch = t.switch }) t.here
    (λ m i r. elim (in-either t.old.back (t.answer ∷ []) m i) [
      | inl j ↦ f.mute p t.old t.here m j r
      | inr j ↦ no-error (to.BarrierReply t.step.xid) m (t.answer ∷ []) (ap (λ (y : Message). y ∷ []) t.step.reply) (λ y. y) j r
    ]) f.mute))
free-step room w (event.Controller (of_controller.Heard p)) v d s f =
    let t = s.step in
    free-in _ w v s f (step-keeps w (event.Controller (of_controller.Heard p)) v s f.kept) (present-step w (event.Controller (of_controller.Heard p)) v s refl f.present) (heard-on w p s.fleet t f.mute f.kept)
    (subst (λ (x : Fleet). AreMute x.wired) (sym t.now) (mute-put p w.fleet.wired t.old (record t.old { back = t.rest }) t.here
    (λ m i. f.mute p t.old t.here m (subst (λ (ms : List Message). IsIn ms m) (sym t.front) (inr i))) f.mute))
free-step room w (event.Packet (of_packet.Arrive pk tag)) v d s f = record {
  kept = step-keeps w (event.Packet (of_packet.Arrive pk tag)) v s f.kept;
  present = present-step w (event.Packet (of_packet.Arrive pk tag)) v s refl f.present;
  room = subst (λ (x : WorldValue). HasSpace x) (sym s.now) f.room;
  running = ap (λ (x : WorldValue). x.fleet.control.halt) s.now ∙ f.running;
  mute = subst (λ (x : WorldValue). AreMute x.fleet.wired) (sym s.now) f.mute;
}
free-step room w (event.Packet (of_packet.Hop n)) v d s f = record {
  kept = step-keeps w (event.Packet (of_packet.Hop n)) v s f.kept;
  present = present-step w (event.Packet (of_packet.Hop n)) v s refl f.present;
  room = subst (λ (x : WorldValue). HasSpace x) (sym s.now) f.room;
  running = ap (λ (x : WorldValue). x.fleet.control.halt) s.now ∙ f.running;
  mute = subst (λ (x : WorldValue). AreMute x.fleet.wired) (sym s.now) f.mute;
}
free-step room w (event.Controller (of_controller.Drained stamp)) v d s f =
    free-in _ w v s.step f (step-keeps w (event.Controller (of_controller.Drained stamp)) v s f.kept) (present-step w (event.Controller (of_controller.Drained stamp)) v s refl f.present) (ap (λ (x : Fleet). x.control.halt) s.step.step.now ∙ f.running) (subst (λ (x : Fleet). AreMute x.wired) (sym s.step.step.now) f.mute)
free-step room w (event.Controller (of_controller.Lost p)) v d s f = absurd d
free-step room w (event.Controller (of_controller.Rejoin p)) v d s f = absurd d
free-step room w (event.Packet (of_packet.Stuck n)) v d s f = absurd d
free-step room w (event.Foreign p side got) v d s f = absurd d
