-- A session is fresh exactly if the journal has no HELLO of its switch.
use Rattle.std.proofs.Common.{◌≡◌, ◌⊎◌, inl, inr, ℕ, ◌<◌, Bool, true, false, List, [], ◌∷◌, length, map, Option, Some, None, slice_get, slice_set, get_or, option_map, refl, sym, ap, subst, ◌∙◌, arith}
use Rattle.std.specs.Prelude.{◌&&◌, ◌||◌, not, ◌==◌}
use Rattle.std.proofs.lemmas.Bool.{cases_eq, eq-eqb, ne_eqb}
use Rattle.std.proofs.lemmas.Option.{slice_get-map, slice_get-get_or, slice_get_within}
use Rattle.openflow_wire.specs.declared.message.Message.{Message}
use Rattle.openflow_wire.specs.declared.message.Message.TheVariants as to
use Rattle.barrier_tracker.specs.Replies.{Awaits, OthersHeard}
use Rattle.session_core.specs.Sessions.{move_in, state_after}
use Rattle.session_core.specs.declared.session.SessionFault.{SessionFault}
use Rattle.session_core.specs.declared.session.SessionFault.TheVariants.{Incompatible}
use Rattle.session_core.specs.declared.session.SessionState.{SessionState}
use Rattle.session_core.specs.declared.session.SessionState.TheVariants as state
use Rattle.session_core.specs.declared.session.Move.{Move}
use Rattle.session_core.specs.declared.session.Move.TheVariants as move
use Rattle.update_coordinator.specs.declared.phase.Phase.{Phase}
use Rattle.update_coordinator.specs.Phases.{works}
use Rattle.update_coordinator.specs.Starts.{new_peer}
use Rattle.update_coordinator.specs.Controls.{Order, Greet, Ask, Change, Fence, Control, Peer, begun_peer, in_phase}
use Rattle.update_coordinator.specs.Sending.{went}
use Rattle.update_coordinator.specs.Hearing.{IsAnswered, IsMoved, due, met, told}
use Rattle.update_coordinator.proofs.Places.{get_set, get_set_other, some_is}
use Rattle.drive_journal.specs.declared.steering.Steering.{Steering}
use Rattle.drive_journal.specs.declared.steering.Steering.TheVariants.{Begin, Send, Heard, Drained, Lost, Garbled}
use Rattle.drive_journal.specs.Steering.{Steers, Drives}
use Rattle.drive_journal.specs.Losses.{HaltsAtLoss}
use Rattle.drive_journal.specs.Greetings.{is_hello, greets, has_greeting, is_fresh}
use Rattle.drive_journal.proofs.Growing.{steer-count, was-running}
use Rattle.drive_journal.proofs.Losing.{losses-on, lost-stops}

bool-either : (a b : Bool) → (a ≡ b) ⊎ (a ≡ b → ⊥)
bool-either true true = inl refl
bool-either false false = inl refl
bool-either true false = inr (λ e. cc)
bool-either false true = inr (λ e. cc)

-- the sessions of two coordinators are fresh alike
abbrev pub Alike : List Peer → List Peer → Type 0
Alike xs ys = (s : ℕ) (x y : Peer) → slice_get xs s ≡ Some x → slice_get ys s ≡ Some y → is_fresh y.session.state ≡ is_fresh x.session.state

same-alike : (xs ys : List Peer) → ys ≡ xs → Alike xs ys
same-alike xs ys e s x y a b = ap (λ (z : Peer). is_fresh z.session.state) (some_is y x (sym b ∙ ap (λ (zs : List Peer). slice_get zs s) e ∙ a))

begun-alike : (b : Bool) (xs : List Peer) → Alike xs (map (begun_peer b) xs)
begun-alike b xs s x y p q = ap (λ (z : Peer). is_fresh z.session.state) (some_is y (begun_peer b x) (sym q ∙ slice_get-map (begun_peer b) xs s ∙ ap (λ (o : Option Peer). option_map (begun_peer b) o) p))

phase-alike : (ph : Phase) (c d : Control) → d ≡ in_phase ph c → Alike c.peers d.peers
phase-alike ph c d e = subst (λ (ys : List Peer). Alike c.peers ys) (sym (ap (λ (x : Control). x.peers) e)) (begun-alike (works ph) c.peers)

answered-alike : (place xid : ℕ) (c d : Control) → IsAnswered place xid c d → Alike c.peers d.peers
answered-alike place xid c d a s x y p q = elim (bool-either (is_fresh y.session.state) (is_fresh x.session.state)) [
  | inl e ↦ e
  | inr n ↦ absurd (
      let last : Awaits c.replies place xid → ¬ (OthersHeard c.replies place) = λ w o. n (phase-alike _ c d (a.last w o) s x y p q) in
      let none : ¬ (Awaits c.replies place xid) = λ w. n (same-alike c.peers d.peers (ap (λ (z : Control). z.peers) (a.more w (last w))) s x y p q) in
      n (same-alike c.peers d.peers (ap (λ (z : Control). z.peers) (a.stray none)) s x y p q))
]

moved-alike : (place sw : ℕ) (m : Move) (c d : Control) → IsMoved place sw m c d → Alike c.peers d.peers
moved-alike place sw (move.Barrier xid) c d h = answered-alike place xid c d h
moved-alike place sw (move.Failed f) c d h = same-alike c.peers d.peers (ap (λ (x : Control). x.peers) h)
moved-alike place sw move.Greeted c d h = same-alike c.peers d.peers (ap (λ (x : Control). x.peers) h)
moved-alike place sw move.Up c d h = same-alike c.peers d.peers (ap (λ (x : Control). x.peers) h)
moved-alike place sw move.Echo c d h = same-alike c.peers d.peers (ap (λ (x : Control). x.peers) h)
moved-alike place sw move.Ignored c d h = same-alike c.peers d.peers (ap (λ (x : Control). x.peers) h)

-- ---- one message

abbrev pub Fails : Move → Type 0
Fails m = (f : SessionFault) × (m ≡ move.Failed f)

greeting-either : (v : ℕ) (b : Bool) → (v == 0) ≡ b → (is_fresh (state_after state.Fresh (move_in state.Fresh 0 (to.Hello v 0))) ≡ false) ⊎ Fails (move_in state.Fresh 0 (to.Hello v 0))
greeting-either v true e = inr (Incompatible, rw e refl)
greeting-either v false e = inl (rw e refl)

fresh-moves : (n : ℕ) (m : Message) → (is_fresh (state_after state.Fresh (move_in state.Fresh n m)) ≡ not (is_hello m)) ⊎ Fails (move_in state.Fresh n m)
fresh-moves n (to.Hello v x) = greeting-either v (v == 0) refl
fresh-moves n (to.Error x f c p) = inr (_, refl)
fresh-moves n (to.EchoRequest x p) = inl refl
fresh-moves n (to.EchoReply x p) = inl refl
fresh-moves n (to.FeaturesRequest x) = inl refl
fresh-moves n (to.FeaturesReply x d b t c a p) = inl refl
fresh-moves n (to.FlowMod x c) = inl refl
fresh-moves n (to.BarrierRequest x) = inl refl
fresh-moves n (to.BarrierReply x) = inl refl
fresh-moves n (to.Other k x b) = inl refl
fresh-moves n (to.FlowStatsRequest x p t o) = inl refl
fresh-moves n (to.FlowStatsReply x m es) = inl refl

not-back : (st : SessionState) (m : Move) → is_fresh st ≡ false → is_fresh (state_after st m) ≡ false
not-back st move.Greeted e = refl
not-back st move.Up e = refl
not-back st (move.Barrier x) e = e
not-back st move.Echo e = e
not-back st move.Ignored e = e
not-back st (move.Failed f) e = refl

state-moves : (st : SessionState) (n : ℕ) (m : Message) → (is_fresh (state_after st (move_in st n m)) ≡ (is_fresh st && not (is_hello m))) ⊎ Fails (move_in st n m)
state-moves state.Fresh n m = fresh-moves n m
state-moves state.Greeted n m = inl (not-back state.Greeted (move_in state.Greeted n m) refl)
state-moves state.Up n m = inl (not-back state.Up (move_in state.Up n m) refl)
state-moves (state.Failed f) n m = inl (not-back (state.Failed f) (move_in (state.Failed f) n m) refl)

met-state : (b : Bool) (mv : Move) (t : Peer) → (met b mv t).session.state ≡ state_after t.session.state mv
met-state b move.Greeted t = refl
met-state true move.Up t = refl
met-state false move.Up t = refl
met-state b (move.Barrier x) t = refl
met-state b move.Echo t = refl
met-state b move.Ignored t = refl
met-state b (move.Failed f) t = refl

went-state : (o : Order) (t : Peer) → (went o t).session.state ≡ t.session.state
went-state Greet t = refl
went-state Ask t = refl
went-state (Change m) t = refl
went-state Fence t = refl

no-halt : (place sw : ℕ) (m : Move) (c d : Control) → IsMoved place sw m c d → Fails m → d.halt ≡ None → ⊥
no-halt place sw m c d h f none =
    let is = subst (λ (x : Move). IsMoved place sw x c d) f.1 h in
    let e = sym none ∙ ap (λ (x : Control). x.halt) is in cc

-- ---- one event

abbrev pub Moves : ℕ → Steering → Peer → Peer → Type 0
Moves s e x y = is_fresh y.session.state ≡ (is_fresh x.session.state && not (greets s e))

still : (b : Bool) → (b && true) ≡ b
still true = refl
still false = refl

stays-so : (xs ys : List Peer) (s : ℕ) (e : Steering) (x y : Peer) → Alike xs ys → greets s e ≡ false → slice_get xs s ≡ Some x → slice_get ys s ≡ Some y → Moves s e x y
stays-so xs ys s e x y alike none p q = alike s x y p q ∙ sym (rw none (still (is_fresh x.session.state)))

hears-on : (c : Control) (p : ℕ) (m : Message) (d : Control) → Steers c (Heard p m) d → d.halt ≡ None → (s : ℕ) (x y : Peer) → slice_get c.peers s ≡ Some x → slice_get d.peers s ≡ Some y → Moves s (Heard p m) x y
hears-on c p m d h on s x y at now =
    let peer = h.1.peer in
    let next : Peer = met (due p c) h.0 (told m peer) in
    let mid : Control = record c { peers = slice_set c.peers p next } in
    let alike = moved-alike p peer.sw h.0 mid d h.1.now in
    elim (cases_eq p s) [
      | inl e ↦ (let here : slice_get c.peers p ≡ Some x = subst (λ (k : ℕ). slice_get c.peers k ≡ Some x) (sym e) at in
          let is : peer ≡ x = some_is peer x (sym h.1.here ∙ here) in
          let z : slice_get mid.peers s ≡ Some next = subst (λ (k : ℕ). slice_get mid.peers k ≡ Some next) e (get_set c.peers p next (slice_get_within c.peers p peer h.1.here)) in
          elim (state-moves peer.session.state peer.session.datapath m) [
            | inl q ↦ alike s next y z now ∙ ap is_fresh (met-state (due p c) h.0 (told m peer)) ∙ ap (λ (mv : Move). is_fresh (state_after peer.session.state mv)) h.1.is ∙ q
                ∙ ap (λ (t : Peer). is_fresh t.session.state && not (is_hello m)) is ∙ ap (λ (b : Bool). is_fresh x.session.state && not (b && is_hello m)) (sym (eq-eqb p s e))
            | inr f ↦ absurd (no-halt p peer.sw h.0 mid d h.1.now (f.0, h.1.is ∙ f.1) on)
          ])
      | inr n ↦ stays-so mid.peers d.peers s (Heard p m) x y alike (ap (λ (b : Bool). b && is_hello m) (ne_eqb p s n)) (get_set_other c.peers p s next (λ q. n (sym q)) ∙ at) now
    ]

sends-alike : (c : Control) (p : ℕ) (m : Message) (d : Control) → Steers c (Send p m) d → Alike c.peers d.peers
sends-alike c p m d h s x y at now =
    let next : Peer = went h.order h.peer in
    let peers : d.peers ≡ slice_set c.peers p next = ap (λ (z : Control). z.peers) h.now in
    elim (cases_eq p s) [
      | inl e ↦ (let here : slice_get c.peers p ≡ Some x = subst (λ (k : ℕ). slice_get c.peers k ≡ Some x) (sym e) at in
          let z : slice_get d.peers s ≡ Some next = subst (λ (k : ℕ). slice_get d.peers k ≡ Some next) e (ap (λ (zs : List Peer). slice_get zs p) peers ∙ get_set c.peers p next (slice_get_within c.peers p h.peer h.here)) in
          ap (λ (t : Peer). is_fresh t.session.state) (some_is y next (sym now ∙ z)) ∙ ap is_fresh (went-state h.order h.peer) ∙ ap (λ (t : Peer). is_fresh t.session.state) (some_is h.peer x (sym h.here ∙ here)))
      | inr n ↦ ap (λ (t : Peer). is_fresh t.session.state) (some_is y x (sym now ∙ ap (λ (zs : List Peer). slice_get zs s) peers ∙ get_set_other c.peers p s next (λ q. n (sym q)) ∙ at))
    ]

steps-on : (c : Control) (e : Steering) (d : Control) → HaltsAtLoss c → Steers c e d → d.halt ≡ None → (s : ℕ) (x y : Peer) → slice_get c.peers s ≡ Some x → slice_get d.peers s ≡ Some y → Moves s e x y
steps-on c Begin d l h on s x y p q = stays-so c.peers d.peers s Begin x y (phase-alike _ c d h.1) refl p q
steps-on c (Send t m) d l h on s x y p q = stays-so c.peers d.peers s (Send t m) x y (sends-alike c t m d h) refl p q
steps-on c (Heard t m) d l h on s x y p q = hears-on c t m d h on s x y p q
steps-on c (Drained v) d l h on s x y p q = stays-so c.peers d.peers s (Drained v) x y (phase-alike _ c d h.1) refl p q
steps-on c (Lost t) d l h on s x y p q = stays-so c.peers d.peers s (Lost t) x y (same-alike c.peers d.peers (ap (λ (z : Control). z.peers) (lost-stops c d t l.none_left h))) refl p q
steps-on c (Garbled t f) d l h on s x y p q = stays-so c.peers d.peers s (Garbled t f) x y (same-alike c.peers d.peers (ap (λ (z : Control). z.peers) h.now)) refl p q

both : (a g h : Bool) → ((a && not g) && not h) ≡ (a && not (g || h))
both true true h = refl
both true false h = refl
both false g h = refl

runs-on : (c : Control) (es : List Steering) (d : Control) → Drives c es d → d.halt ≡ None → c.halt ≡ None
runs-on c [] d r on = ap (λ (x : Control). x.halt) r ∙ on
runs-on c (e ∷ es) d r on = was-running c e r.0 r.1

pub noted : (c : Control) (es : List Steering) (d : Control) → HaltsAtLoss c → Drives c es d → d.halt ≡ None → (s : ℕ) (old new : Peer) → slice_get c.peers s ≡ Some old → slice_get d.peers s ≡ Some new
    → is_fresh new.session.state ≡ (is_fresh old.session.state && not (has_greeting s es))
noted c [] d l r on s x y p q = same-alike c.peers d.peers (ap (λ (z : Control). z.peers) (sym r)) s x y p q ∙ sym (still (is_fresh x.session.state))
noted c (e ∷ es) d l r on s x y p q =
    let mid : Peer = get_or r.0.peers s (new_peer 0) in
    let within : s < length r.0.peers = omega (arith, steer-count c e r.0 r.1, slice_get_within c.peers s x p) in
    let here : slice_get r.0.peers s ≡ Some mid = slice_get-get_or r.0.peers s (new_peer 0) within in
    noted r.0 es d (losses-on c e r.0 r.1 l) r.2 on s mid y here q
    ∙ ap (λ (b : Bool). b && not (has_greeting s es)) (steps-on c e r.0 l r.1 (runs-on r.0 es d r.2 on) s x mid p here)
    ∙ both (is_fresh x.session.state) (greets s e) (has_greeting s es)
