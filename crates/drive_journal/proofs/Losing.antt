-- As long as the first loss halts a drive, no session of it is lost.
use Rattle.std.proofs.Common.{◌≡◌, ◌≢◌, inl, inr, ℕ, Bool, true, false, List, map, Option, Some, None, Result, Ok, Err, slice_get, slice_set, refl, sym, ap, subst, ◌∙◌}
use Rattle.std.specs.Prelude.{IfErr, IfOk, MatchBool, OnErr, OnOk}
use Rattle.std.specs.Result.{is_ok}
use Rattle.std.proofs.lemmas.Bool.{cases_eq}
use Rattle.nk_values.specs.declared.rows.Rows.{Rows}
use Rattle.session_core.specs.declared.session.Move.{Move}
use Rattle.session_core.specs.declared.session.Move.TheVariants as move
use Rattle.barrier_tracker.specs.Replies.{Awaits, OthersHeard}
use Rattle.update_coordinator.specs.declared.phase.Phase.{Phase}
use Rattle.update_coordinator.specs.declared.cause.Cause.TheVariants as cause
use Rattle.update_coordinator.specs.declared.refusal.Refusal.{Refusal}
use Rattle.update_coordinator.specs.Calls.{IsRefusedAway}
use Rattle.update_coordinator.specs.Phases.{works}
use Rattle.update_coordinator.specs.Starts.{new_peer, initial_control}
use Rattle.update_coordinator.specs.Controls.{Order, Greet, Ask, Change, Fence, Control, Peer, begun_peer, in_phase, halted, lost_by}
use Rattle.update_coordinator.specs.Sending.{went}
use Rattle.update_coordinator.specs.Hearing.{IsAnswered, IsMoved, IsLost, due, met, told}
use Rattle.update_coordinator.proofs.Places.{get_map, set_cases}
use Rattle.drive_journal.specs.declared.steering.Steering.{Steering}
use Rattle.drive_journal.specs.declared.steering.Steering.TheVariants.{Begin, Send, Heard, Drained, Lost, Garbled}
use Rattle.drive_journal.specs.Cuts.{Halts}
use Rattle.drive_journal.specs.Losses.{HaltsAtLoss}
use Rattle.drive_journal.specs.Steering.{Steers}

-- ---- no switch is away

abbrev pub AreThere : List Peer → Type 0
AreThere peers = (s : ℕ) (x : Peer) → slice_get peers s ≡ Some x → x.away ≡ true → ⊥

same-there : (xs ys : List Peer) → ys ≡ xs → AreThere xs → AreThere ys
same-there xs ys e h = subst AreThere (sym e) h

begun-there : (b : Bool) (xs : List Peer) → AreThere xs → AreThere (map (begun_peer b) xs)
begun-there b xs h s y at away =
    let was = get_map (begun_peer b) xs s y at in
    h s was.0 was.1 (sym (ap (λ (z : Peer). z.away) was.2) ∙ away)

phase-there : (ph : Phase) (c d : Control) → d ≡ in_phase ph c → AreThere c.peers → AreThere d.peers
phase-there ph c d e h = same-there (map (begun_peer (works ph)) c.peers) d.peers (ap (λ (x : Control). x.peers) e) (begun-there (works ph) c.peers h)

set-there : (xs : List Peer) (p : ℕ) (x y : Peer) → AreThere xs → slice_get xs p ≡ Some x → y.away ≡ x.away → AreThere (slice_set xs p y)
set-there xs p x y h here same s z at away =
    elim (set_cases xs p s y z at) [
      | inl q ↦ h p x here (sym same ∙ sym (ap (λ (t : Peer). t.away) q.0) ∙ away)
      | inr q ↦ h s z q.1 away
    ]

answered-there : (place xid : ℕ) (c d : Control) → IsAnswered place xid c d → AreThere c.peers → AreThere d.peers
answered-there place xid c d a h s x at away =
    let last : Awaits c.replies place xid → ¬ (OthersHeard c.replies place) = λ w o. phase-there _ c d (a.last w o) h s x at away in
    let none : ¬ (Awaits c.replies place xid) = λ w. same-there c.peers d.peers (ap (λ (z : Control). z.peers) (a.more w (last w))) h s x at away in
    same-there c.peers d.peers (ap (λ (z : Control). z.peers) (a.stray none)) h s x at away

moved-there : (place sw : ℕ) (m : Move) (c d : Control) → IsMoved place sw m c d → AreThere c.peers → AreThere d.peers
moved-there place sw (move.Barrier xid) c d h t = answered-there place xid c d h t
moved-there place sw (move.Failed f) c d h t = same-there c.peers d.peers (ap (λ (x : Control). x.peers) h) t
moved-there place sw move.Greeted c d h t = same-there c.peers d.peers (ap (λ (x : Control). x.peers) h) t
moved-there place sw move.Up c d h t = same-there c.peers d.peers (ap (λ (x : Control). x.peers) h) t
moved-there place sw move.Echo c d h t = same-there c.peers d.peers (ap (λ (x : Control). x.peers) h) t
moved-there place sw move.Ignored c d h t = same-there c.peers d.peers (ap (λ (x : Control). x.peers) h) t

went-away : (o : Order) (s : Peer) → (went o s).away ≡ s.away
went-away Greet s = refl
went-away Ask s = refl
went-away (Change m) s = refl
went-away Fence s = refl

met-away : (b : Bool) (m : Move) (s : Peer) → (met b m s).away ≡ s.away
met-away b move.Greeted s = refl
met-away true move.Up s = refl
met-away false move.Up s = refl
met-away b (move.Barrier x) s = refl
met-away b move.Echo s = refl
met-away b move.Ignored s = refl
met-away b (move.Failed f) s = refl

-- ---- a call that is refused finds the coordinator halted

pub refused-halted : (c : Control) (place : ℕ) (r : Refusal) → HaltsAtLoss c → IsRefusedAway place c r → c.halt ≢ None
refused-halted c place r h (inl halted) = halted.1
refused-halted c place r h (inr away) = absurd (h.there place away.2)

-- what a call tells
pub takes-if : {A : Type 0} (b : Bool) (r : Result A Refusal) (place : ℕ) (P : Type 0) (c d : Control) → HaltsAtLoss c → b ≡ is_ok r → IfOk r (λ x. P) → IfErr r (IsRefusedAway place c) → OnErr r (d ≡ c) → MatchBool b P ((c.halt ≢ None) × (d ≡ c))
takes-if b (Ok x) place P c d l e done refused same = subst (λ (t : Bool). MatchBool t P ((c.halt ≢ None) × (d ≡ c))) (sym e) done
takes-if b (Err f) place P c d l e done refused same = subst (λ (t : Bool). MatchBool t P ((c.halt ≢ None) × (d ≡ c))) (sym e) (refused-halted c place f l refused, same)

pub if-on : {A F : Type 0} (r : Result A F) (P : Type 0) → OnOk r P → IfOk r (λ x. P)
if-on (Ok x) P h = h
if-on (Err f) P h = tt

-- ---- a loss halts

pub lost-stops : (c d : Control) (s : ℕ) → c.rejoins ≡ 0 → (l : IsLost s c d) → d ≡ halted (cause.Lost l.peer.sw) c
lost-stops c d s zero l = l.now ∙ ap (λ (n : ℕ). lost_by n s l.peer c) zero

some-halt : {X : Type 0} (o : Option X) (x : X) → o ≡ Some x → o ≢ None
some-halt o x e = λ n. cc

pub halts-by : (c : Control) (e : Steering) (d : Control) → HaltsAtLoss c → Steers c e d → Halts e → d.halt ≢ None
halts-by c Begin d l s h = absurd h
halts-by c (Send p m) d l s h = absurd h
halts-by c (Heard p m) d l s h = absurd h
halts-by c (Drained v) d l s h = absurd h
halts-by c (Lost p) d l s h = some-halt d.halt _ (ap (λ (x : Control). x.halt) (lost-stops c d p l.none_left s))
halts-by c (Garbled p f) d l s h = some-halt d.halt _ (ap (λ (x : Control). x.halt) s.now)

-- ---- one event

steer-there : (c : Control) (e : Steering) (d : Control) → Steers c e d → c.rejoins ≡ 0 → AreThere c.peers → AreThere d.peers
steer-there c Begin d s n t = phase-there _ c d s.1 t
steer-there c (Send p m) d s n t = same-there (slice_set c.peers p (went s.order s.peer)) d.peers (ap (λ (x : Control). x.peers) s.now) (set-there c.peers p s.peer (went s.order s.peer) t s.here (went-away s.order s.peer))
steer-there c (Heard p m) d s n t =
    let next : Peer = met (due p c) s.0 (told m s.1.peer) in
    let mid : Control = record c { peers = slice_set c.peers p next } in
    moved-there p s.1.peer.sw s.0 mid d s.1.now (set-there c.peers p s.1.peer next t s.1.here (met-away (due p c) s.0 (told m s.1.peer)))
steer-there c (Drained v) d s n t = phase-there _ c d s.1 t
steer-there c (Lost p) d s n t = same-there c.peers d.peers (ap (λ (x : Control). x.peers) (lost-stops c d p n s)) t
steer-there c (Garbled p f) d s n t = same-there c.peers d.peers (ap (λ (x : Control). x.peers) s.now) t

answered-rejoins : (place xid : ℕ) (c d : Control) → IsAnswered place xid c d → d.rejoins ≡ c.rejoins
answered-rejoins place xid c d a = elim (cases_eq d.rejoins c.rejoins) [
  | inl e ↦ e
  | inr n ↦ absurd (
      let last : Awaits c.replies place xid → ¬ (OthersHeard c.replies place) = λ w o. n (ap (λ (x : Control). x.rejoins) (a.last w o)) in
      let none : ¬ (Awaits c.replies place xid) = λ w. n (ap (λ (x : Control). x.rejoins) (a.more w (last w))) in
      n (ap (λ (x : Control). x.rejoins) (a.stray none)))
]

moved-rejoins : (place sw : ℕ) (m : Move) (c d : Control) → IsMoved place sw m c d → d.rejoins ≡ c.rejoins
moved-rejoins place sw (move.Barrier xid) c d h = answered-rejoins place xid c d h
moved-rejoins place sw (move.Failed f) c d h = ap (λ (x : Control). x.rejoins) h
moved-rejoins place sw move.Greeted c d h = ap (λ (x : Control). x.rejoins) h
moved-rejoins place sw move.Up c d h = ap (λ (x : Control). x.rejoins) h
moved-rejoins place sw move.Echo c d h = ap (λ (x : Control). x.rejoins) h
moved-rejoins place sw move.Ignored c d h = ap (λ (x : Control). x.rejoins) h

steer-rejoins : (c : Control) (e : Steering) (d : Control) → Steers c e d → c.rejoins ≡ 0 → d.rejoins ≡ c.rejoins
steer-rejoins c Begin d s n = ap (λ (x : Control). x.rejoins) s.1
steer-rejoins c (Send p m) d s n = ap (λ (x : Control). x.rejoins) s.now
steer-rejoins c (Heard p m) d s n = moved-rejoins p s.1.peer.sw s.0 (record c { peers = slice_set c.peers p (met (due p c) s.0 (told m s.1.peer)) }) d s.1.now
steer-rejoins c (Drained v) d s n = ap (λ (x : Control). x.rejoins) s.1
steer-rejoins c (Lost p) d s n = ap (λ (x : Control). x.rejoins) (lost-stops c d p n s)
steer-rejoins c (Garbled p f) d s n = ap (λ (x : Control). x.rejoins) s.now

pub losses-on : (c : Control) (e : Steering) (d : Control) → Steers c e d → HaltsAtLoss c → HaltsAtLoss d
losses-on c e d s h = record {
  none_left = steer-rejoins c e d s h.none_left ∙ h.none_left;
  there = λ k a. steer-there c e d s h.none_left (λ j x at away. h.there j (x, at, away)) k a.0 a.1 a.2;
}

-- ---- at the start

pub starts-so : (versions : List Rows) (switches : List ℕ) → HaltsAtLoss (initial_control versions switches 0 None)
starts-so versions switches = record {
  none_left = refl;
  there = λ s a.
      let was = get_map new_peer switches s a.0 a.1 in
      let e : false ≡ true = sym (ap (λ (x : Peer). x.away) was.2) ∙ a.2 in cc;
}
