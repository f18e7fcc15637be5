-- The cursors stand where the batches are read on, over each step.
use Rattle.std.proofs.Common.{◌≡◌, ◌+◌, ◌-◌, inl, inr, ℕ, Bool, true, false, List, [], ◌∷◌, ◌++◌, length, map, drop, slice_get, slice_set, Option, Some, None, refl, sym, ◌∙◌, ap, subst, arith}
use Rattle.std.specs.List.{flat_map}
use Rattle.std.proofs.lemmas.List.{length-set, length-map, append-nil}
use Rattle.nk_values.specs.declared.row.FlowMod.{FlowMod}
use Rattle.nk_values.specs.declared.rows.Rows.{Rows}
use Rattle.openflow_wire.specs.RowChanges.{mod_of}
use Rattle.update_plan.specs.declared.cursor.Share.{Share}
use Rattle.update_plan.specs.declared.cursor.Share.TheVariants.{Bulk, Round, Ingress, Internal}
use Rattle.update_plan.specs.declared.cursor.Cursor.{Cursor}
use Rattle.update_plan.specs.Batches.{ports_at, band_of}
use Rattle.update_plan.specs.Reading.{share_of, ports_of, side, side_from, IsSpan, cursor_at}
use Rattle.update_plan.specs.declared.cursor.Span.{Span}
use Rattle.update_plan.proofs.Cursors.{goes_first}
use Rattle.update_coordinator.specs.declared.phase.Phase.{Phase}
use Rattle.update_coordinator.specs.declared.phase.Phase.TheVariants.{Opening, Idle, Install, Flip, Drain, Clean, Tidy, Sweep}
use Rattle.update_coordinator.specs.Phases.{works}
use Rattle.update_coordinator.specs.Batches.{version_at, batch}
use Rattle.openflow_wire.specs.declared.message.Message.{Message}
use Rattle.session_core.specs.declared.session.Move.{Move}
use Rattle.session_core.specs.declared.session.Move.TheVariants as move
use Rattle.barrier_tracker.specs.declared.tracker.BarrierState.{BarrierState}
use Rattle.update_coordinator.specs.Controls.{Control, Peer, Change, begun_peer, in_phase, batch_at, gone, returned}
use Rattle.update_coordinator.specs.Hearing.{met, told}
use Rattle.update_coordinator.specs.Peers.{HearsAt, LosesAt, ReturnsAt}
use Rattle.update_coordinator.specs.Reading.{left_in, IsRead, AreBetween, AreRead, begun_again}
use Rattle.update_coordinator.specs.Sending.{went}
use Rattle.update_coordinator.specs.Starts.{initial_control, new_peer}
use Rattle.update_coordinator.proofs.Orders.{behind_front}
use Rattle.update_coordinator.proofs.Places.{set_cases, get_map, some_at, get_within}

-- ---- at its front a batch is whole

whole_is : (share : Share) (adds : Bool) (v : Option Rows) (sw : ℕ) → side share adds v sw ≡ map (mod_of adds) (flat_map (λ p. share_of share adds (band_of v) p) (ports_at v sw))
whole_is share adds None sw = refl
whole_is share adds (Some v) sw = refl

side_is : (share : Share) (adds : Bool) (v : Option Rows) (sw : ℕ) (span : Span) → IsSpan span sw (ports_of v) → side_from share adds v sw (cursor_at span).at ≡ map (mod_of adds) (flat_map (λ p. share_of share adds (band_of v) p) (ports_at v sw))
side_is share adds v sw span h = goes_first share adds v sw span h ∙ whole_is share adds v sw

both_are : (share : Share) (new old : Option Rows) (sw : ℕ) (span : Span) → IsSpan span sw (ports_of new) → side_from share true new sw (cursor_at span).at ++ side share false old sw ≡
    map (mod_of true) (flat_map (λ p. share_of share true (band_of new) p) (ports_at new sw)) ++ map (mod_of false) (flat_map (λ p. share_of share false (band_of old) p) (ports_at old sw))
both_are share new old sw span h = (λ j. side_is share true new sw span h j ++ whole_is share false old sw j)

none_from : (share : Share) (span : Span) (sw : ℕ) → side_from share true None sw (cursor_at span).at ≡ []
none_from share span sw = goes_first share true None sw span (λ k p e. absurd (cc))

-- where nothing comes in
goes_alone : (share : Share) (v : Option Rows) (sw : ℕ) (span : Span) → map (mod_of false) (flat_map (λ p. share_of share false (band_of v) p) (ports_at v sw)) ≡ side_from share true None sw (cursor_at span).at ++ side share false v sw
goes_alone share v sw span = sym (whole_is share false v sw) ∙ sym (ap (λ (ms : List FlowMod). ms ++ side share false v sw) (none_from share span sw))

pub front_is : (versions : List Rows) (ph : Phase) (sw : ℕ) (span : Span) → AreBetween versions sw span → batch versions ph sw ≡ left_in versions ph sw 0 (cursor_at span)
front_is versions Opening sw span h = refl
front_is versions (Idle i) sw span h = sym (ap (λ (ms : List FlowMod). ms ++ []) (none_from Bulk span sw))
front_is versions (Install i) sw span h = sym (side_is Bulk true (version_at versions i) sw span (h i)) ∙ sym (append-nil (side_from Bulk true (version_at versions i) sw (cursor_at span).at))
front_is versions (Flip i r) sw span h = sym (both_are (Round r) (version_at versions i) (version_at versions (i - 1)) sw span (h i))
front_is versions (Drain i) sw span h = sym (ap (λ (ms : List FlowMod). ms ++ []) (none_from Bulk span sw))
front_is versions (Clean i) sw span h = goes_alone Bulk (version_at versions (i - 1)) sw span
front_is versions (Tidy i) sw span h = goes_alone Ingress (version_at versions (i - 1)) sw span
front_is versions (Sweep i v) sw span h = goes_alone Internal (version_at versions v) sw span

-- ---- over each step

-- the peer at a place changed, and reads on from where its cursor is now
spans_put : (c : Control) (place : ℕ) (s t : Peer) (spans : List Span) (cursors : List Cursor) → AreRead c spans cursors → slice_get c.peers place ≡ Some s → t.sw ≡ s.sw →
    (k : ℕ) (u : Peer) (span : Span) → slice_get (slice_set c.peers place t) k ≡ Some u → slice_get spans k ≡ Some span → AreBetween c.versions u.sw span
spans_put c place s t spans cursors a here e k u span p q = elim (set_cases c.peers place k t u p) [
  | inl f ↦ subst (λ (n : ℕ). AreBetween c.versions n span) (sym (ap (λ (z : Peer). z.sw) f.0 ∙ e)) (a.between place s span here (ap (λ (j : ℕ). slice_get spans j) (sym f.1) ∙ q))
  | inr f ↦ a.between k u span f.1 q
]

put_read : (c : Control) (place : ℕ) (s t : Peer) (x : Cursor) (spans : List Span) (cursors : List Cursor) → AreRead c spans cursors → slice_get c.peers place ≡ Some s → t.sw ≡ s.sw → IsRead c t x → AreRead (record c { peers = slice_set c.peers place t }) spans (slice_set cursors place x)
put_read c place s t x spans cursors a here g r = record {
  many = a.many ∙ sym (length-set c.peers place t);
  between = spans_put c place s t spans cursors a here g;
  count = length-set cursors place x ∙ a.count ∙ sym (length-set c.peers place t);
  each = λ k s y e d. elim (set_cases c.peers place k t s e) [
    | inl p ↦ elim (set_cases cursors place k x y d) [
      | inl q ↦ subst (λ (z : Peer). IsRead c z y) (sym p.0) (subst (λ (z : Cursor). IsRead c t z) (sym q.0) r)
      | inr q ↦ absurd (q.0 p.1)
    ]
    | inr p ↦ elim (set_cases cursors place k x y d) [
      | inl q ↦ absurd (p.0 q.1)
      | inr q ↦ a.each k s y p.1 q.1
    ]
  ];
}

-- the peer at a place changed, and neither its number nor how far it has come
pub keeps_read : (c : Control) (place : ℕ) (s t : Peer) (spans : List Span) (cursors : List Cursor) → AreRead c spans cursors → slice_get c.peers place ≡ Some s → t.sw ≡ s.sw → t.next ≡ s.next → AreRead (record c { peers = slice_set c.peers place t }) spans cursors
keeps_read c place s t spans cursors a here e d = record {
  many = a.many ∙ sym (length-set c.peers place t);
  between = spans_put c place s t spans cursors a here e;
  count = a.count ∙ sym (length-set c.peers place t);
  each = λ k u y p q. elim (set_cases c.peers place k t u p) [
    | inl f ↦ subst (λ (z : Peer). IsRead c z y) (sym f.0) (same s t y e d (a.each place s y here (ap (λ (j : ℕ). slice_get cursors j) (sym f.1) ∙ q)))
    | inr f ↦ a.each k u y f.1 q
  ];
}
  where
    same : (s t : Peer) (y : Cursor) → t.sw ≡ s.sw → t.next ≡ s.next → IsRead c s y → IsRead c t y
    same s t y e d r = (λ j. drop (d j) (batch c.versions c.phase (e j))) ∙ r ∙ (λ j. left_in c.versions c.phase (sym e j) (sym d j) y)

-- its batch begins again
pub first_read : (c : Control) (place : ℕ) (s t : Peer) (span : Span) (spans : List Span) (cursors : List Cursor) → AreRead c spans cursors → slice_get c.peers place ≡ Some s → slice_get spans place ≡ Some span → t.sw ≡ s.sw → t.next ≡ 0 →
    AreRead (record c { peers = slice_set c.peers place t }) spans (slice_set cursors place (cursor_at span))
first_read c place s t span spans cursors a here there g e = put_read c place s t (cursor_at span) spans cursors a here g
    ((λ j. drop (e j) (batch c.versions c.phase t.sw)) ∙ front_is c.versions c.phase t.sw span (subst (λ (n : ℕ). AreBetween c.versions n span) (sym g) (a.between place s span here there)) ∙ (λ j. left_in c.versions c.phase t.sw (sym e j) (cursor_at span)))

-- a flow mod went out
pub change_read : (c : Control) (place : ℕ) (s : Peer) (m : FlowMod) (x : Cursor) (spans : List Span) (cursors : List Cursor) → AreRead c spans cursors → slice_get c.peers place ≡ Some s → drop s.next (batch_at c s) ≡ m ∷ left_in c.versions c.phase s.sw (s.next + 1) x →
    AreRead (record c { peers = slice_set c.peers place (went (Change m) s) }) spans (slice_set cursors place x)
change_read c place s m x spans cursors a here e = put_read c place s (went (Change m) s) x spans cursors a here refl (behind_front (batch_at c s) s.next m (left_in c.versions c.phase s.sw (s.next + 1) x) e)

-- a phase begins
pub phase_read : (c : Control) (ph : Phase) (spans : List Span) (old cursors : List Cursor) → AreRead c spans old → length cursors ≡ length old → ((k : ℕ) (x : Cursor) (span : Span) → slice_get cursors k ≡ Some x → slice_get spans k ≡ Some span → x ≡ cursor_at span) → AreRead (in_phase ph c) spans cursors
phase_read c ph spans old cursors a n f = record {
  count = n ∙ a.count ∙ sym (length-map c.peers (begun_peer (works ph)));
  many = a.many ∙ sym (length-map c.peers (begun_peer (works ph)));
  each = λ k s x e d.
      let y = get_map (begun_peer (works ph)) c.peers k s e in
      let t : Peer = begun_peer (works ph) y.0 in
      let z = some_at spans k (omega (arith, get_within c.peers k y.0 y.1, a.many)) in
      subst (λ (z : Peer). IsRead (in_phase ph c) z x) (sym y.2) (subst (λ (z : Cursor). IsRead (in_phase ph c) t z) (sym (f k x z.0 d z.1)) (front_is c.versions ph y.0.sw z.0 (a.between k y.0 z.0 y.1 z.1)));
  between = λ k s span e d. let y = get_map (begun_peer (works ph)) c.peers k s e in subst (λ (n : ℕ). AreBetween c.versions n span) (sym (ap (λ (z : Peer). z.sw) y.2)) (a.between k y.0 span y.1 d);
}

pub start_read : (versions : List Rows) (switches : List ℕ) (rejoins : ℕ) (overlap : Option ℕ) (spans : List Span) (cursors : List Cursor) → length cursors ≡ length switches → length spans ≡ length switches →
    ((k sw : ℕ) (span : Span) → slice_get switches k ≡ Some sw → slice_get spans k ≡ Some span → AreBetween versions sw span) → AreRead (initial_control versions switches rejoins overlap) spans cursors
start_read versions switches rejoins overlap spans cursors n m f = record {
  count = n ∙ sym (length-map switches new_peer);
  many = m ∙ sym (length-map switches new_peer);
  each = λ k s x e d. let y = get_map new_peer switches k s e in subst (λ (z : Peer). IsRead (initial_control versions switches rejoins overlap) z x) (sym y.2) refl;
  between = λ k s span e d. let y = get_map new_peer switches k s e in subst (λ (n : ℕ). AreBetween versions n span) (sym (ap (λ (z : Peer). z.sw) y.2)) (f k y.0 span y.1 d);
}

-- ---- what each call does to the switch at a place

pub lost_read : (c : Control) (place n : ℕ) (peers : List Peer) (rs : List BarrierState) (spans : List Span) (cursors : List Cursor) → AreRead c spans cursors → LosesAt place c.peers peers → AreRead (record c { peers = peers; replies = rs; rejoins = n }) spans cursors
lost_read c place n peers rs spans cursors a s =
    let x = subst (λ (zs : List Peer). AreRead (record c { peers = zs }) spans cursors) (sym s.now) (keeps_read c place s.peer (gone s.peer) spans cursors a s.here refl refl) in
    record { count = x.count; many = x.many; each = x.each; between = x.between }

pub back_read : (c : Control) (place : ℕ) (peers : List Peer) (spans : List Span) (cursors : List Cursor) → AreRead c spans cursors → ReturnsAt place c.peers peers → AreRead (record c { peers = peers }) spans cursors
back_read c place peers spans cursors a s = subst (λ (zs : List Peer). AreRead (record c { peers = zs }) spans cursors) (sym s.now) (keeps_read c place s.peer (returned s.peer) spans cursors a s.here refl refl)

pub noted_read : (c : Control) (rs : List BarrierState) (spans : List Span) (cursors : List Cursor) → AreRead c spans cursors → AreRead (record c { replies = rs }) spans cursors
noted_read c rs spans cursors a = record { count = a.count; many = a.many; each = a.each; between = a.between }

met_read : (c : Control) (place : ℕ) (due : Bool) (x : Move) (s u : Peer) (span : Span) (spans : List Span) (cursors : List Cursor) → AreRead c spans cursors → slice_get c.peers place ≡ Some s → u.sw ≡ s.sw → u.next ≡ s.next → slice_get spans place ≡ Some span → AreRead (record c { peers = slice_set c.peers place (met due x u) }) spans (begun_again due x place span cursors)
met_read c place true move.Up s u span spans cursors a here e d there = first_read c place s (met true move.Up u) span spans cursors a here there e refl
met_read c place false move.Up s u span spans cursors a here e d there = keeps_read c place s (met false move.Up u) spans cursors a here e d
met_read c place true move.Greeted s u span spans cursors a here e d there = keeps_read c place s (met true move.Greeted u) spans cursors a here e d
met_read c place false move.Greeted s u span spans cursors a here e d there = keeps_read c place s (met false move.Greeted u) spans cursors a here e d
met_read c place true (move.Barrier x) s u span spans cursors a here e d there = keeps_read c place s (met true (move.Barrier x) u) spans cursors a here e d
met_read c place false (move.Barrier x) s u span spans cursors a here e d there = keeps_read c place s (met false (move.Barrier x) u) spans cursors a here e d
met_read c place true move.Echo s u span spans cursors a here e d there = keeps_read c place s (met true move.Echo u) spans cursors a here e d
met_read c place false move.Echo s u span spans cursors a here e d there = keeps_read c place s (met false move.Echo u) spans cursors a here e d
met_read c place true move.Ignored s u span spans cursors a here e d there = keeps_read c place s (met true move.Ignored u) spans cursors a here e d
met_read c place false move.Ignored s u span spans cursors a here e d there = keeps_read c place s (met false move.Ignored u) spans cursors a here e d
met_read c place true (move.Failed f) s u span spans cursors a here e d there = keeps_read c place s (met true (move.Failed f) u) spans cursors a here e d
met_read c place false (move.Failed f) s u span spans cursors a here e d there = keeps_read c place s (met false (move.Failed f) u) spans cursors a here e d

pub hears_read : (c : Control) (place : ℕ) (m : Message) (due : Bool) (x : Move) (old peers : List Peer) (span : Span) (spans : List Span) (cursors : List Cursor) → AreRead c spans cursors → slice_get spans place ≡ Some span → old ≡ c.peers → HearsAt place m due x old peers → AreRead (record c { peers = peers }) spans (begun_again due x place span cursors)
hears_read c place m due x old peers span spans cursors a there o s =
    let here : slice_get c.peers place ≡ Some s.peer = ap (λ ys. slice_get ys place) (sym o) ∙ s.here in
    subst (λ (zs : List Peer). AreRead (record c { peers = zs }) spans (begun_again due x place span cursors)) (sym (s.now ∙ ap (λ ys. slice_set ys place (met due x (told m s.peer))) o)) (met_read c place due x s.peer (told m s.peer) span spans cursors a here refl refl there)
