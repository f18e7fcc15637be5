-- By which messages a session fails, in a run from a start.
use Rattle.std.proofs.Common.{◌≡◌, ◌⊎◌, if◌then◌else◌, ℕ, inl, inr, Bool, true, false, List, [], ◌∷◌, ◌++◌, refl, sym, ◌∙◌, ap, subst, Option, None, is_some}
use Rattle.std.proofs.lemmas.Bool.{false≢true, cases_lt}
use Rattle.std.proofs.lemmas.Bool.Decides.{Decides-eqb}
use Rattle.nk_values.specs.Members.{IsIn}
use Rattle.openflow_wire.specs.declared.message.Message.{Message}
use Rattle.openflow_wire.specs.declared.message.Message.TheVariants as to
use Rattle.session_core.specs.Sessions.{move_in, move_of}
use Rattle.session_core.specs.declared.session.SessionFault.{SessionFault}
use Rattle.session_core.specs.declared.session.SessionFault.TheVariants.{SwitchError, WrongSwitch}
use Rattle.session_core.specs.declared.session.SessionState.{SessionState}
use Rattle.session_core.specs.declared.session.SessionState.TheVariants as state
use Rattle.session_core.specs.declared.session.Move.TheVariants.{Greeted, Up, Barrier, Failed}
use Rattle.update_coordinator.specs.declared.cause.Cause.{Cause}
use Rattle.update_coordinator.specs.declared.cause.Cause.TheVariants as cause
use Rattle.update_laws.specs.Fleets.{wire_of}
use Rattle.update_laws.specs.Stages.{Stage, Away, Meeting, Asking, Telling, Sending, Waiting, Answered, Resting, AreErrors, IsFullError, IsLine, Said, is_away, state_of}
use Rattle.update_laws.specs.Updates.{Setting, Phase}
use Rattle.update_laws.specs.Wired.{Wire}
use Rattle.update_laws.proofs.Fleets.{end-here}
use Rattle.update_laws.proofs.Wiring.{head-is}
use Rattle.world_core.specs.declared.event.Event.{Event}
use Rattle.world_core.specs.Laws.{HasTableRoom}
use Rattle.world_core.specs.Worlds.{WorldValue, setting, initial_world, numbers_of, IsKept}
use Rattle.world_core.proofs.Beginning.{start-kept}
use Rattle.run_laws.specs.Laws.{LeadsTo, IsFailure, OnlyRefused}
use Rattle.run_laws.proofs.Copies.{leads-kept}
use Rattle.run_laws.proofs.Room.{KeepsRoom, runs-room, start-room}

fault-is : (f g : SessionFault) → Failed f ≡ Failed g → f ≡ g
fault-is f g e = cc

-- the error of a full table, and its fault
record IsFull (m : Message) (f : SessionFault) : Type 0 where
  error : IsFullError m
  fault : f ≡ SwitchError 3 0

error-move : (st : Stage) (sw xid : ℕ) (bytes : List ℕ) → move_in (state_of st) sw (to.Error xid 3 0 bytes) ≡ Failed (SwitchError 3 0)
error-move Away sw xid bytes = refl
error-move (Meeting n left) sw xid bytes = refl
error-move (Asking n left) sw xid bytes = refl
error-move Telling sw xid bytes = refl
error-move (Sending n left) sw xid bytes = refl
error-move (Waiting x) sw xid bytes = refl
error-move (Answered x) sw xid bytes = refl
error-move Resting sw xid bytes = refl

by-error : (st : Stage) (sw : ℕ) (m : Message) (f : SessionFault) → move_in (state_of st) sw m ≡ Failed f → IsFullError m → IsFull m f
by-error st sw m f h e = record {
  error = e;
  fault = fault-is f (SwitchError 3 0) (sym h ∙ ap (λ (x : Message). move_in (state_of st) sw x) e.is ∙ error-move st sw e.xid e.bytes);
}

-- ---- what the switch said

greeted-not : (f : SessionFault) → Greeted ≡ Failed f → ⊥
greeted-not f e = absurd (cc)

up-not : (f : SessionFault) → Up ≡ Failed f → ⊥
up-not f e = absurd (cc)

barrier-not : (x : ℕ) (f : SessionFault) → Barrier x ≡ Failed f → ⊥
barrier-not x f e = absurd (cc)

-- a switch that tells its own number is up
own-number : (sw xid : ℕ) → move_in state.Greeted sw (to.FeaturesReply xid sw 0 1 1 1787 []) ≡ Up
own-number sw xid = ap (λ (b : Bool). if b then Up else Failed (WrongSwitch sw sw)) ((Decides-eqb sw sw).1 refl)

-- nothing was said, and what is after are errors
behind-full : (m : Message) (rest said behind : List Message) → said ≡ [] → m ∷ rest ≡ said ++ behind → AreErrors behind → IsFullError m
behind-full m rest said behind w e all =
    all m (subst (λ (ms : List Message). IsIn ms m) (e ∙ ap (λ (ms : List Message). ms ++ behind) w) (inl refl))

-- the message is the one that was said
said-is : (m x : Message) (rest said behind : List Message) → said ≡ x ∷ [] → m ∷ rest ≡ said ++ behind → m ≡ x
said-is m x rest said behind w e = head-is m x rest behind (e ∙ ap (λ (ms : List Message). ms ++ behind) w)

said-full : (st : Stage) (sw : ℕ) (m : Message) (rest said behind : List Message) (f : SessionFault) → is_away st ≡ false → Said st sw said → m ∷ rest ≡ said ++ behind → AreErrors behind → move_in (state_of st) sw m ≡ Failed f → IsFullError m
said-full Away sw m rest said behind f a w e all h = absurd (false≢true (sym a))
said-full (Meeting n left) sw m rest said behind f a w e all h =
    absurd (greeted-not f (sym (ap (λ (x : Message). move_in state.Fresh sw x) (said-is m (to.Hello 1 w.0) rest said behind w.1 e)) ∙ h))
said-full (Asking n left) sw m rest said behind f a w e all h = behind-full m rest said behind w e all
said-full Telling sw m rest said behind f a w e all h =
    absurd (up-not f (sym (own-number sw w.0) ∙ sym (ap (λ (x : Message). move_in state.Greeted sw x) (said-is m (to.FeaturesReply w.0 sw 0 1 1 1787 []) rest said behind w.1 e)) ∙ h))
said-full (Sending n left) sw m rest said behind f a w e all h = behind-full m rest said behind w e all
said-full (Waiting x) sw m rest said behind f a w e all h = behind-full m rest said behind w e all
said-full (Answered x) sw m rest said behind f a w e all h =
    absurd (barrier-not x f (sym (ap (λ (y : Message). move_in state.Up sw y) (said-is m (to.BarrierReply x) rest said behind w e)) ∙ h))
said-full Resting sw m rest said behind f a w e all h = behind-full m rest said behind w e all

-- errors may be in front of it
front-full : (st : Stage) (sw : ℕ) (m : Message) (rest before said behind : List Message) (f : SessionFault) → is_away st ≡ false → Said st sw said → m ∷ rest ≡ before ++ (said ++ behind) → AreErrors (before ++ behind) →
    move_in (state_of st) sw m ≡ Failed f → IsFullError m
front-full st sw m rest [] said behind f a w e all h = said-full st sw m rest said behind f a w e all h
front-full st sw m rest (x ∷ before) said behind f a w e all h = all m (inl (sym (head-is m x rest (before ++ (said ++ behind)) e)))

-- ---- one switch

state-is : (st : Stage) (halted : Bool) (s : SessionState) → halted ≡ false → (halted ≡ true) ⊎ (s ≡ state_of st) → s ≡ state_of st
state-is st halted s n (inl e) = absurd (false≢true (sym n ∙ e))
state-is st halted s n (inr e) = e

line-full : (c : Setting) (swept : ℕ) (ph : Phase) (halted : Bool) (l : Wire) → halted ≡ false → IsLine c swept ph halted l → l.peer.away ≡ false → (m : Message) (rest : List Message) → l.back ≡ m ∷ rest → (f : SessionFault) → move_of l.peer.session m ≡ Failed f → IsFull m f
line-full c swept ph halted l n i there m rest front f h =
    let v = i.voice in
    let is : l.peer.session.state ≡ state_of i.stage = state-is i.stage halted l.peer.session.state n i.standing.state in
    let moves : move_in (state_of i.stage) l.switch.sw m ≡ Failed f = (λ j. move_in (sym is j) (sym i.standing.datapath j) m) ∙ h in
    by-error i.stage l.switch.sw m f moves
    (front-full i.stage l.switch.sw m rest v.before v.said v.behind f (sym i.away ∙ there) v.what (sym front ∙ v.is) (subst AreErrors v.parts i.full) moves)

-- ---- a world

running : (halt : Option Cause) → halt ≡ None → is_some halt ≡ false
running halt e = ap (λ (o : Option Cause). is_some o) e

failure-full : (w : WorldValue) (place : ℕ) (why : Cause) → IsKept w → (x : IsFailure place w why) → IsFull x.message x.fault
unfolding IsKept
failure-full w place why k x =
    let h = end-here (setting w) w.fleet k.fleet place x.end_ x.here in
    line-full (setting w) w.fleet.control.swept w.fleet.control.phase (is_some w.fleet.control.halt) (wire_of w.fleet.control x.session.peer h.reply x.end_) (running w.fleet.control.halt x.session.running)
    (k.fleet.lines place x.session.peer h.reply x.end_ x.session.here h.reply_at x.here) x.session.there x.message x.rest x.front x.fault x.fails

leads-room : HasTableRoom → (events : List Event) (w : WorldValue) → LeadsTo events w → KeepsRoom w
leads-room room events w l =
    runs-room room (initial_world l.topology l.versions l.settings) events w (start-kept l.topology l.versions l.settings l.sound l.accepted l.hops) l.runs
    (λ r. start-room l.settings.capacity (numbers_of l.topology.switches))

pub only-refused : HasTableRoom → OnlyRefused
only-refused room events w place why l x =
    let k = leads-kept events w l in
    let full = failure-full w place why k x in
    record {
      sw = x.session.peer.sw;
      is = x.is ∙ ap (λ (f : SessionFault). cause.Failed x.session.peer.sw f) full.fault;
      short = λ n. elim (cases_lt w.capacity 130000) [
        | inl s ↦ s
        | inr r ↦ absurd (leads-room room events w l (n, r) place x.end_ x.here x.message (subst (λ (ms : List Message). IsIn ms x.message) (sym x.front) (inl refl)) full.error)
      ];
    }
