-- A journal with one event more.
use Rattle.std.proofs.Common.{◌≡◌, ◌≢◌, inl, inr, ℕ, zero, suc, Bool, List, [], ◌∷◌, ◌++◌, length, map, Option, Some, None, slice_set, replicate, refl, sym, ap, subst, ◌∙◌}
use Rattle.std.specs.List.{AllByRecursion}
use Rattle.std.proofs.lemmas.Bool.{cases_eq}
use Rattle.std.proofs.lemmas.List.{length-map, length-replicate, length-set}
use Rattle.session_core.specs.declared.session.Move.{Move}
use Rattle.session_core.specs.declared.session.Move.TheVariants as move
use Rattle.barrier_tracker.specs.Replies.{Awaits, OthersHeard}
use Rattle.openflow_wire.specs.declared.message.Message.{Message}
use Rattle.update_coordinator.specs.declared.cause.Cause.{Cause}
use Rattle.update_coordinator.specs.declared.phase.Phase.{Phase}
use Rattle.update_coordinator.specs.declared.refusal.Refusal.{Refusal}
use Rattle.update_coordinator.specs.Phases.{works}
use Rattle.update_coordinator.specs.Calls.{unless_halted}
use Rattle.update_coordinator.specs.Controls.{Control, Peer, begun_peer, in_phase, lost_by}
use Rattle.update_coordinator.specs.Hearing.{IsAnswered, IsMoved, due, met, told}
use Rattle.drive_journal.specs.declared.steering.Steering.{Steering}
use Rattle.drive_journal.specs.declared.steering.Steering.TheVariants.{Begin, Send, Heard, Drained, Lost, Garbled}
use Rattle.drive_journal.specs.Cuts.{IsAmong}
use Rattle.drive_journal.specs.Losses.{HaltsAtLoss}
use Rattle.drive_journal.specs.Steering.{Steers, Drives}
use Rattle.drive_journal.specs.Journals.{AreCounts, AreWritable, IsWritable, IsSteered, IsKeptFor, KeepsFor, MetBy, stamps_in, stamps_of}
use Rattle.drive_journal.proofs.Counting.{none-told}
use Rattle.drive_journal.proofs.Losing.{losses-on}

-- ---- the journal leads one event further

drives-more : (c : Control) (es : List Steering) (e : Steering) (x d : Control) → Drives c es x → Steers x e d → Drives c (es ++ e ∷ []) d
drives-more c [] e x d r s = (d, subst (λ (y : Control). Steers y e d) (sym r) s, refl)
drives-more c (y ∷ es) e x d r s = (r.0, r.1, drives-more r.0 es e x d r.2 s)

append-nil-right : {X : Type 0} (xs : List X) → xs ++ [] ≡ xs
append-nil-right [] = refl
append-nil-right {X} (x ∷ xs) = ap (λ (ys : List X). x ∷ ys) (append-nil-right xs)

append-more : {X : Type 0} (xs ys zs : List X) → (xs ++ ys) ++ zs ≡ xs ++ (ys ++ zs)
append-more [] ys zs = refl
append-more {X} (x ∷ xs) ys zs = ap (λ (ws : List X). x ∷ ws) (append-more xs ys zs)

stamps-more : (es : List Steering) (e : Steering) → stamps_of (es ++ e ∷ []) ≡ stamps_of es ++ stamps_in e
stamps-more [] e = append-nil-right (stamps_in e)
stamps-more (x ∷ es) e = ap (λ (ns : List ℕ). stamps_in x ++ ns) (stamps-more es e) ∙ sym (append-more (stamps_in x) (stamps_of es) (stamps_in e))

map-more : {X Y : Type 0} (f : X → Y) (xs : List X) (x : X) → map f (xs ++ x ∷ []) ≡ map f xs ++ f x ∷ []
map-more f [] x = refl
map-more {X} {Y} f (y ∷ xs) x = ap (λ (ys : List Y). f y ∷ ys) (map-more f xs x)

-- ---- the number of switches stays

in-count : (b : Bool) (xs : List Peer) → length (map (begun_peer b) xs) ≡ length xs
in-count b xs = length-map xs (begun_peer b)

phase-count : (ph : Phase) (c d : Control) → d ≡ in_phase ph c → length d.peers ≡ length c.peers
phase-count ph c d e = ap (λ (x : Control). length x.peers) e ∙ in-count (works ph) c.peers

same-count : (c d : Control) → d ≡ c → length d.peers ≡ length c.peers
same-count c d e = ap (λ (x : Control). length x.peers) e

answered-count : (place xid : ℕ) (c d : Control) → IsAnswered place xid c d → length d.peers ≡ length c.peers
answered-count place xid c d a = elim (cases_eq (length d.peers) (length c.peers)) [
  | inl e ↦ e
  | inr n ↦ absurd (
      let last : Awaits c.replies place xid → ¬ (OthersHeard c.replies place) = λ w o. n (phase-count _ c d (a.last w o)) in
      let none : ¬ (Awaits c.replies place xid) = λ w. n (ap (λ (x : Control). length x.peers) (a.more w (last w))) in
      n (same-count c d (a.stray none)))
]

moved-count : (place sw : ℕ) (m : Move) (c d : Control) → IsMoved place sw m c d → length d.peers ≡ length c.peers
moved-count place sw (move.Barrier xid) c d h = answered-count place xid c d h
moved-count place sw (move.Failed f) c d h = ap (λ (x : Control). length x.peers) h
moved-count place sw move.Greeted c d h = same-count c d h
moved-count place sw move.Up c d h = same-count c d h
moved-count place sw move.Echo c d h = same-count c d h
moved-count place sw move.Ignored c d h = same-count c d h

lost-count : (n place : ℕ) (s : Peer) (c : Control) → length (lost_by n place s c).peers ≡ length c.peers
lost-count zero place s c = refl
lost-count (suc n) place s c = length-set c.peers place _

pub steer-count : (c : Control) (e : Steering) (d : Control) → Steers c e d → length d.peers ≡ length c.peers
steer-count c Begin d s = phase-count _ c d s.1
steer-count c (Send p m) d s = ap (λ (x : Control). length x.peers) s.now ∙ length-set c.peers p _
steer-count c (Heard p m) d s = moved-count p s.1.peer.sw s.0 (record c { peers = slice_set c.peers p (met (due p c) s.0 (told m s.1.peer)) }) d s.1.now ∙ length-set c.peers p _
steer-count c (Drained v) d s = phase-count _ c d s.1
steer-count c (Lost p) d s = ap (λ (x : Control). length x.peers) s.now ∙ lost-count c.rejoins p s.peer c
steer-count c (Garbled p f) d s = ap (λ (x : Control). length x.peers) s.now

-- ---- halts

open-halt : (h : Option Cause) (r : Option Refusal) → unless_halted h r ≡ None → h ≡ None
open-halt None r e = refl
open-halt (Some x) r e = cc

-- what happens finds the coordinator running
pub was-running : (c : Control) (e : Steering) (d : Control) → Steers c e d → c.halt ≡ None
was-running c Begin d s = open-halt c.halt _ s.0
was-running c (Send p m) d s = s.running
was-running c (Heard p m) d s = s.1.running
was-running c (Drained v) d s = open-halt c.halt _ s.0
was-running c (Lost p) d s = s.running
was-running c (Garbled p f) d s = s.running

kept-none : {E : Type 0} (named faults : E → ℕ) (received : E → Option (List ℕ)) (h : Option Cause) (journal : List Steering) (ends : List E) → h ≡ None → KeepsFor named faults received h journal ends → ends ≡ []
kept-none named faults received None journal ends e k = k
kept-none named faults received (Some x) journal ends e k = absurd cc

none-kept : {E : Type 0} (named faults : E → ℕ) (received : E → Option (List ℕ)) (h : Option Cause) (journal : List Steering) (ends : List E) → h ≡ None → ends ≡ [] → KeepsFor named faults received h journal ends
none-kept named faults received None journal ends e k = k
none-kept named faults received (Some x) journal ends e k = absurd cc

kept-some : {E : Type 0} (named faults : E → ℕ) (received : E → Option (List ℕ)) (h : Option Cause) (journal : List Steering) (ends : List E) → h ≢ None → IsKeptFor named faults received journal ends → KeepsFor named faults received h journal ends
kept-some named faults received None journal ends n k = absurd (n refl)
kept-some named faults received (Some x) journal ends n k = k

-- ---- what holds of a journal

-- it has no event
pub begins-steered : {E Q : Type 0} (named faults : E → ℕ) (received : E → Option (List ℕ)) (stamped : Q → ℕ) (start control : Control) (journal : List Steering) (receipts : List Q) (ends : List E)
    → control ≡ start → control.halt ≡ None → journal ≡ [] → receipts ≡ [] → ends ≡ [] → IsSteered named faults received stamped start control journal receipts ends
begins-steered named faults received stamped start control journal receipts ends begins runs no_event no_receipt no_end =
    subst (λ (es : List Steering). IsSteered named faults received stamped start control es receipts ends) (sym no_event) (record {
      runs = sym begins;
      drains = ap (map stamped) no_receipt;
      kept = none-kept named faults received control.halt [] ends runs no_end;
    })

-- an event more, with which the coordinator goes on
pub goes-steered : {E Q : Type 0} (named faults : E → ℕ) (received : E → Option (List ℕ)) (stamped : Q → ℕ) (start c d : Control) (journal room now : List Steering) (receipts all : List Q) (ends : List E) (e : Steering)
    → IsSteered named faults received stamped start c journal receipts ends → room ≡ journal → now ≡ room ++ e ∷ [] → map stamped all ≡ map stamped receipts ++ stamps_in e
    → Steers c e d → d.halt ≡ None → IsSteered named faults received stamped start d now all ends
goes-steered named faults received stamped start c d journal room now receipts all ends e h same pushed drained s on =
    let is : now ≡ journal ++ e ∷ [] = rw (← same) pushed in
    subst (λ (es : List Steering). IsSteered named faults received stamped start d es all ends) (sym is) (record {
      runs = drives-more start journal e c d h.runs s;
      drains = drained ∙ ap (λ (ns : List ℕ). ns ++ stamps_in e) h.drains ∙ sym (stamps-more journal e);
      kept = none-kept named faults received d.halt (journal ++ e ∷ []) ends on (kept-none named faults received c.halt journal ends (was-running c e d s) h.kept);
    })

-- an event more, which halts it
pub halts-steered : {E Q : Type 0} (named faults : E → ℕ) (received : E → Option (List ℕ)) (stamped : Q → ℕ) (start c d : Control) (journal room now : List Steering) (receipts : List Q) (ends place all : List E) (e : Steering) (end : E)
    → IsSteered named faults received stamped start c journal receipts ends → room ≡ journal → now ≡ room ++ e ∷ [] → place ≡ ends → all ≡ place ++ end ∷ [] → stamps_in e ≡ []
    → Steers c e d → d.halt ≢ None → MetBy named faults received journal e end → IsSteered named faults received stamped start d now receipts all
halts-steered named faults received stamped start c d journal room now receipts ends place all e end h same pushed same_ends added plain s off met =
    let is : now ≡ journal ++ e ∷ [] = rw (← same) pushed in
    let none : ends ≡ [] = kept-none named faults received c.halt journal ends (was-running c e d s) h.kept in
    let one : all ≡ end ∷ [] = added ∙ ap (λ xs. xs ++ end ∷ []) (same_ends ∙ none) in
    subst (λ (es : List Steering). IsSteered named faults received stamped start d es receipts all) (sym is) (record {
      runs = drives-more start journal e c d h.runs s;
      drains = h.drains ∙ sym (stamps-more journal e ∙ ap (λ (ns : List ℕ). stamps_of journal ++ ns) plain ∙ append-nil-right (stamps_of journal));
      kept = kept-some named faults received d.halt (journal ++ e ∷ []) all off (record { before = journal; event = e; end_ = end; last = refl; only = one; met = met });
    })

-- no report is kept with an event that is none of a drain
pub no-report : {Q : Type 0} (stamped : Q → ℕ) (receipts : List Q) (ns : List ℕ) → ns ≡ [] → map stamped receipts ≡ map stamped receipts ++ ns
no-report stamped receipts ns e = sym (append-nil-right (map stamped receipts)) ∙ ap (λ (xs : List ℕ). map stamped receipts ++ xs) (sym e)

pub one-report : {Q : Type 0} (stamped : Q → ℕ) (receipts room all : List Q) (q : Q) → room ≡ receipts → all ≡ room ++ q ∷ [] → map stamped all ≡ map stamped receipts ++ stamped q ∷ []
one-report stamped receipts room all q same pushed = ap (map stamped) (pushed ∙ ap (λ xs. xs ++ q ∷ []) same) ∙ map-more stamped receipts q

-- ---- what can be written
all-more : {X : Type 0} (P : X → Type 0) (xs : List X) (x : X) → AllByRecursion P xs → P x → AllByRecursion P (xs ++ x ∷ [])
all-more P [] x a p = (p, tt)
all-more P (y ∷ xs) x a p = (a.0, all-more P xs x a.1 p)

-- ---- a journal with the counts of what was heard

abbrev pub Holds : {E Q : Type 0} → (E → ℕ) → (E → ℕ) → (E → Option (List ℕ)) → (Q → ℕ) → Control → Control → List Steering → List Q → List E → List ℕ → Type 0
Holds named faults received stamped start c journal receipts ends counts =
    IsSteered named faults received stamped start c journal receipts ends × AreCounts journal counts × (length counts ≡ length start.peers) × (length c.peers ≡ length start.peers) × AreWritable journal × HaltsAtLoss c

-- it has no event, and the counts are 0
pub begins-held : {E Q : Type 0} (named faults : E → ℕ) (received : E → Option (List ℕ)) (stamped : Q → ℕ) (start control : Control) (journal : List Steering) (receipts : List Q) (ends : List E) (counts : List ℕ) (n : ℕ)
    → control ≡ start → control.halt ≡ None → HaltsAtLoss control → journal ≡ [] → receipts ≡ [] → ends ≡ [] → counts ≡ replicate n 0 → n ≡ length start.peers → Holds named faults received stamped start control journal receipts ends counts
begins-held named faults received stamped start control journal receipts ends counts n begins runs losses no_event no_receipt no_end none many = (
  begins-steered named faults received stamped start control journal receipts ends begins runs no_event no_receipt no_end,
  subst (λ (es : List Steering). AreCounts es counts) (sym no_event) (subst (λ (ns : List ℕ). AreCounts [] ns) (sym none) (none-told n)),
  ap (λ (ns : List ℕ). length ns) none ∙ length-replicate n 0 ∙ many,
  ap (λ (x : Control). length x.peers) begins,
  subst (λ (es : List Steering). AreWritable es) (sym no_event) tt,
  losses,
)

-- nothing changed
pub same-held : {E Q : Type 0} (named faults : E → ℕ) (received : E → Option (List ℕ)) (stamped : Q → ℕ) (start c d : Control) (journal now : List Steering) (receipts all : List Q) (ends kept : List E) (counts : List ℕ)
    → Holds named faults received stamped start c journal receipts ends counts → d ≡ c → now ≡ journal → all ≡ receipts → kept ≡ ends → Holds named faults received stamped start d now all kept counts
same-held named faults received stamped start c d journal now receipts all ends kept counts h is same_journal same_receipts same_ends = rw (is, same_journal, same_receipts, same_ends) h

-- an event more, with which the coordinator goes on
pub goes-held : {E Q : Type 0} (named faults : E → ℕ) (received : E → Option (List ℕ)) (stamped : Q → ℕ) (start c d : Control) (journal room now : List Steering) (receipts all : List Q) (ends : List E) (counts after : List ℕ) (e : Steering)
    → Holds named faults received stamped start c journal receipts ends counts → room ≡ journal → now ≡ room ++ e ∷ [] → map stamped all ≡ map stamped receipts ++ stamps_in e
    → Steers c e d → d.halt ≡ None → AreCounts (journal ++ e ∷ []) after → length after ≡ length counts → IsWritable e → Holds named faults received stamped start d now all ends after
goes-held named faults received stamped start c d journal room now receipts all ends counts after e h same pushed drained s on told long fits = (
  goes-steered named faults received stamped start c d journal room now receipts all ends e h.0 same pushed drained s on,
  subst (λ (es : List Steering). AreCounts es after) (sym (pushed ∙ ap (λ (es : List Steering). es ++ e ∷ []) same)) told,
  long ∙ h.2,
  steer-count c e d s ∙ h.3,
  subst (λ (es : List Steering). AreWritable es) (sym (pushed ∙ ap (λ (es : List Steering). es ++ e ∷ []) same)) (all-more IsWritable journal e h.4 fits),
  losses-on c e d s h.5,
)

-- an event more, which halts it
pub halts-held : {E Q : Type 0} (named faults : E → ℕ) (received : E → Option (List ℕ)) (stamped : Q → ℕ) (start c d : Control) (journal room now : List Steering) (receipts : List Q) (ends place all : List E) (counts after : List ℕ) (e : Steering) (end : E)
    → Holds named faults received stamped start c journal receipts ends counts → room ≡ journal → now ≡ room ++ e ∷ [] → place ≡ ends → all ≡ place ++ end ∷ [] → stamps_in e ≡ []
    → Steers c e d → d.halt ≢ None → MetBy named faults received journal e end → AreCounts (journal ++ e ∷ []) after → length after ≡ length counts → IsWritable e → Holds named faults received stamped start d now receipts all after
halts-held named faults received stamped start c d journal room now receipts ends place all counts after e end h same pushed same_ends added plain s off met told long fits = (
  halts-steered named faults received stamped start c d journal room now receipts ends place all e end h.0 same pushed same_ends added plain s off met,
  subst (λ (es : List Steering). AreCounts es after) (sym (pushed ∙ ap (λ (es : List Steering). es ++ e ∷ []) same)) told,
  long ∙ h.2,
  steer-count c e d s ∙ h.3,
  subst (λ (es : List Steering). AreWritable es) (sym (pushed ∙ ap (λ (es : List Steering). es ++ e ∷ []) same)) (all-more IsWritable journal e h.4 fits),
  losses-on c e d s h.5,
)

-- what the controller does by itself halts nothing
pub begins-on : (c d : Control) → Steers c Begin d → d.halt ≡ None
begins-on c d s = ap (λ (x : Control). x.halt) s.1 ∙ was-running c Begin d s

pub sends-on : (c : Control) (p : ℕ) (m : Message) (d : Control) → Steers c (Send p m) d → d.halt ≡ None
sends-on c p m d s = ap (λ (x : Control). x.halt) s.now ∙ was-running c (Send p m) d s

pub drains-on : (c : Control) (v : ℕ) (d : Control) → Steers c (Drained v) d → d.halt ≡ None
drains-on c v d s = ap (λ (x : Control). x.halt) s.1 ∙ was-running c (Drained v) d s

-- what comes of a switch reports no drain
pub among-plain : (n : ℕ) (e : Steering) → IsAmong n e → stamps_in e ≡ []
among-plain n Begin h = refl
among-plain n (Send s m) h = refl
among-plain n (Heard s m) h = refl
among-plain n (Drained v) h = absurd h
among-plain n (Lost s) h = refl
among-plain n (Garbled s f) h = refl

pub counts-from : (journal room : List Steering) (e : Steering) (counts : List ℕ) → room ≡ journal → AreCounts (room ++ e ∷ []) counts → AreCounts (journal ++ e ∷ []) counts
counts-from journal room e counts same h = subst (λ (es : List Steering). AreCounts (es ++ e ∷ []) counts) same h
