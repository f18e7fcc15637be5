-- What goes out is what comes first, and fits.
use Rattle.std.proofs.Common.{◌≡◌, ◌<◌, ◌+◌, ◌^◌, inl, inr, ℕ, Bool, true, false, List, [], ◌∷◌, drop, slice_get, slice_set, Option, Some, None, IfNone, IfSome, refl, sym, ◌∙◌, ap, subst, arith}
use Rattle.nk_values.specs.declared.row.FlowMod.{FlowMod}
use Rattle.openflow_wire.specs.declared.message.Message.{Message}
use Rattle.openflow_wire.specs.declared.message.Message.TheVariants as to
use Rattle.openflow_wire.specs.Writing.{Fits}
use Rattle.barrier_tracker.specs.declared.tracker.BarrierState.TheVariants as awaited
use Rattle.update_plan.specs.declared.cursor.Cursor.{Cursor}
use Rattle.update_plan.specs.declared.cursor.Span.{Span}
use Rattle.update_coordinator.specs.declared.batch.NextDraft.{NextDraft}
use Rattle.update_coordinator.specs.Controls.{Control, Peer, Order, Change, Fence, orders_of, unsent, batch_at, unsent_at}
use Rattle.update_coordinator.specs.Kept.{IsControl}
use Rattle.update_coordinator.specs.Sending.{went, expected, MaySend, IsSent}
use Rattle.update_coordinator.specs.Peers.{in_batch, GreetsBy, GreetsAt, SendsAt, FencesAt}
use Rattle.update_coordinator.specs.Drafts.{drafted}
use Rattle.update_coordinator.specs.Reading.{left_in, IsAtEnd, IsAtChange, AreRead}
use Rattle.update_coordinator.proofs.Counting.{short_batch}
use Rattle.update_coordinator.proofs.Kept.{went_keeps, fence_keeps, one_peer}
use Rattle.update_coordinator.proofs.Numbers.{small_number}
use Rattle.update_coordinator.proofs.Orders.{greet_front, ask_front, batch_front, none_front, at_front, before_end}
use Rattle.update_coordinator.proofs.Cursors.{keeps_read, change_read}
use Rattle.update_coordinator.proofs.Sendable.{batch_goes, all_at}

-- ---- HELLO and the request for the features

greets_front : (ms : List FlowMod) (s t : Peer) (m : Message) (g : GreetsBy s t m) → unsent ms s ≡ g.order ∷ unsent ms (went g.order s)
greets_front ms s t m g = elim g.which [
  | inl p ↦ subst (λ (o : Order). unsent ms s ≡ o ∷ unsent ms (went o s)) (sym p.1) (greet_front ms s p.0)
  | inr p ↦ subst (λ (o : Order). unsent ms s ≡ o ∷ unsent ms (went o s)) (sym p.2) (ask_front ms s p.0 p.1)
]

-- they are no barrier, nor a flow mod
greets_replies : (s t : Peer) (m : Message) (g : GreetsBy s t m) (place n : ℕ) (c : Control) → c.replies ≡ expected place n g.order c.replies
greets_replies s t m g place n c = elim g.which [
  | inl p ↦ subst (λ (o : Order). c.replies ≡ expected place n o c.replies) (sym p.1) refl
  | inr p ↦ subst (λ (o : Order). c.replies ≡ expected place n o c.replies) (sym p.2) refl
]

greets_next : (s t : Peer) (m : Message) (g : GreetsBy s t m) → ((went g.order s).next ≡ s.next) × ((went g.order s).sw ≡ s.sw)
greets_next s t m g = elim g.which [
  | inl p ↦ subst (λ (o : Order). ((went o s).next ≡ s.next) × ((went o s).sw ≡ s.sw)) (sym p.1) (refl, refl)
  | inr p ↦ subst (λ (o : Order). ((went o s).next ≡ s.next) × ((went o s).sw ≡ s.sw)) (sym p.2) (refl, refl)
]

greets_now : (c : Control) (place : ℕ) (peers : List Peer) (m : Message) (g : GreetsAt place c.peers peers m) → peers ≡ slice_set c.peers place (went g.greets.order g.peer)
greets_now c place peers m g = g.now ∙ ap (slice_set c.peers place) g.greets.now

pub greets_keep : (c : Control) (place : ℕ) (peers : List Peer) (m : Message) → IsControl c → GreetsAt place c.peers peers m → IsControl (record c { peers = peers })
greets_keep c place peers m h g = subst (λ (zs : List Peer). IsControl (record c { peers = zs })) (sym (greets_now c place peers m g))
    (went_keeps c place g.peer g.greets.order _ h g.here (greets_front (batch_at c g.peer) g.peer g.then m g.greets))

pub greets_read : (c : Control) (place : ℕ) (peers : List Peer) (m : Message) (spans : List Span) (cursors : List Cursor) → AreRead c spans cursors → GreetsAt place c.peers peers m → AreRead (record c { peers = peers }) spans cursors
greets_read c place peers m spans cursors a g = subst (λ (zs : List Peer). AreRead (record c { peers = zs }) spans cursors) (sym (greets_now c place peers m g))
    (let n = greets_next g.peer g.then m g.greets in keeps_read c place g.peer (went g.greets.order g.peer) spans cursors a g.here n.1 n.0)

pub greets_sent : (c : Control) (place : ℕ) (peers : List Peer) (m : Message) → c.halt ≡ None → GreetsAt place c.peers peers m → IsSent place c (record c { peers = peers }) m
greets_sent c place peers m running g = record {
  running = running;
  peer = g.peer;
  here = g.here;
  order = g.greets.order;
  rest = unsent (batch_at c g.peer) (went g.greets.order g.peer);
  front = greets_front (batch_at c g.peer) g.peer g.then m g.greets;
  is = g.greets.is;
  now = (λ j. let d : Control = record c { peers = greets_now c place peers m g j; replies = greets_replies g.peer g.then m g.greets place (g.peer.sent + 1) c j } in d);
}

pub greets_none : (c : Control) (place : ℕ) → ((s : Peer) → slice_get c.peers place ≡ Some s → (s.greets ≡ false) × (s.asks ≡ false)) → ((s : Peer) → slice_get c.peers place ≡ Some s → in_batch s.greets s.asks s.sends ≡ false) → ¬ (MaySend place c)
greets_none c place n i m = m.some (none_front (batch_at c m.peer) m.peer (n m.peer m.here).0 (n m.peer m.here).1 (i m.peer m.here))

-- ---- a flow mod

-- the peer of the one is that of the other
change_at : (c : Control) (place : ℕ) (m : FlowMod) (x : Cursor) (s : Peer) → slice_get c.peers place ≡ Some s → IsAtChange place m x c → drop s.next (batch_at c s) ≡ m ∷ left_in c.versions c.phase s.sw (s.next + 1) x
change_at c place m x s here a = subst (λ (z : Peer). drop z.next (batch_at c z) ≡ m ∷ left_in c.versions c.phase z.sw (z.next + 1) x) (one_peer c place a.peer s a.here here) a.left

change_front : (c : Control) (place : ℕ) (m : FlowMod) (x : Cursor) (s : Peer) → slice_get c.peers place ≡ Some s → in_batch s.greets s.asks s.sends ≡ true → IsAtChange place m x c → unsent_at c s ≡ Change m ∷ orders_of (left_in c.versions c.phase s.sw (s.next + 1) x)
change_front c place m x s here i a = batch_front (batch_at c s) s i ∙ ap orders_of (change_at c place m x s here a)

short_next : (c : Control) (place : ℕ) (m : FlowMod) (x : Cursor) → IsControl c → IsAtChange place m x c → (s : Peer) → slice_get c.peers place ≡ Some s → s.next < 130000
short_next c place m x h a s here = omega (arith, before_end (batch_at c s) s.next m (left_in c.versions c.phase s.sw (s.next + 1) x) (change_at c place m x s here a), short_batch c.versions c.phase s.sw h.limited.limits)

pub change_small : (c : Control) (place : ℕ) (m : FlowMod) (x : Cursor) → IsControl c → IsAtChange place m x c → (s : Peer) → slice_get c.peers place ≡ Some s → (s.sent + 1 < 2 ^ 32) × (s.next < 130000)
change_small c place m x h a s here =
    (small_number c s (h.numbers place s here), short_next c place m x h a s here)

pub change_keeps : (c : Control) (place : ℕ) (m : FlowMod) (x : Cursor) (peers : List Peer) (message : Message) → IsControl c → ((s : Peer) → slice_get c.peers place ≡ Some s → in_batch s.greets s.asks s.sends ≡ true) → IsAtChange place m x c → SendsAt place (Change m) c.peers peers message →
    IsControl (record c { peers = peers })
change_keeps c place m x peers message h i a s = subst (λ (zs : List Peer). IsControl (record c { peers = zs })) (sym s.now)
    (went_keeps c place s.peer (Change m) _ h s.here (change_front c place m x s.peer s.here (i s.peer s.here) a))

pub changes_read : (c : Control) (place : ℕ) (m : FlowMod) (x : Cursor) (peers : List Peer) (message : Message) (spans : List Span) (cursors : List Cursor) → AreRead c spans cursors → IsAtChange place m x c → SendsAt place (Change m) c.peers peers message →
    AreRead (record c { peers = peers }) spans (slice_set cursors place x)
changes_read c place m x peers message spans cursors r a s = subst (λ (zs : List Peer). AreRead (record c { peers = zs }) spans (slice_set cursors place x)) (sym s.now)
    (change_read c place s.peer m x spans cursors r s.here (change_at c place m x s.peer s.here a))

pub change_sent : (c : Control) (place : ℕ) (m : FlowMod) (x : Cursor) (peers : List Peer) (message : Message) → c.halt ≡ None → ((s : Peer) → slice_get c.peers place ≡ Some s → in_batch s.greets s.asks s.sends ≡ true) → IsAtChange place m x c → SendsAt place (Change m) c.peers peers message →
    IsSent place c (record c { peers = peers }) message
change_sent c place m x peers message running i a s = record {
  running = running;
  peer = s.peer;
  here = s.here;
  order = Change m;
  rest = _;
  front = change_front c place m x s.peer s.here (i s.peer s.here) a;
  is = s.is;
  now = ap (λ (zs : List Peer). let d : Control = record c { peers = zs } in d) s.now;
}

pub change_fits : (c : Control) (place : ℕ) (m : FlowMod) (x : Cursor) (peers : List Peer) (message : Message) → IsControl c → IsAtChange place m x c → SendsAt place (Change m) c.peers peers message → Fits message
change_fits c place m x peers message h a s =
    let goes = all_at _ (batch_at c s.peer) s.peer.next m (at_front (batch_at c s.peer) s.peer.next m _ (change_at c place m x s.peer s.here a)) (batch_goes c.versions c.phase s.peer.sw h.limited.writable) in
    subst Fits (sym s.is) (goes (s.peer.sent + 1) (small_number c s.peer (h.numbers place s.peer s.here)))

-- ---- a barrier

fence_front : (c : Control) (place : ℕ) (s : Peer) → slice_get c.peers place ≡ Some s → in_batch s.greets s.asks s.sends ≡ true → IsAtEnd place c → unsent_at c s ≡ Fence ∷ []
fence_front c place s here i a = batch_front (batch_at c s) s i ∙ ap orders_of (subst (λ (z : Peer). drop z.next (batch_at c z) ≡ []) (one_peer c place a.peer s a.here here) a.left)

pub fences_keep : (c : Control) (place xid : ℕ) (peers : List Peer) → IsControl c → ((s : Peer) → slice_get c.peers place ≡ Some s → in_batch s.greets s.asks s.sends ≡ true) → IsAtEnd place c → FencesAt place c.peers peers xid →
    IsControl (record c { peers = peers; replies = slice_set c.replies place (awaited.Reply xid) })
fences_keep c place xid peers h i a s = subst (λ (zs : List Peer). IsControl (record c { peers = zs; replies = slice_set c.replies place (awaited.Reply xid) })) (sym s.now)
    (fence_keeps c place xid s.peer [] h s.here (fence_front c place s.peer s.here (i s.peer s.here) a) s.known)

pub fences_read : (c : Control) (place xid : ℕ) (peers : List Peer) (spans : List Span) (cursors : List Cursor) → AreRead c spans cursors → FencesAt place c.peers peers xid → AreRead (record c { peers = peers; replies = slice_set c.replies place (awaited.Reply xid) }) spans cursors
fences_read c place xid peers spans cursors r s =
    let x = subst (λ (zs : List Peer). AreRead (record c { peers = zs }) spans cursors) (sym s.now) (keeps_read c place s.peer (went Fence s.peer) spans cursors r s.here refl refl) in
    record { count = x.count; many = x.many; each = x.each; between = x.between }

pub fences_sent : (c : Control) (place xid : ℕ) (peers : List Peer) → c.halt ≡ None → ((s : Peer) → slice_get c.peers place ≡ Some s → in_batch s.greets s.asks s.sends ≡ true) → IsAtEnd place c → FencesAt place c.peers peers xid →
    IsSent place c (record c { peers = peers; replies = slice_set c.replies place (awaited.Reply xid) }) (to.BarrierRequest xid)
fences_sent c place xid peers running i a s = record {
  running = running;
  peer = s.peer;
  here = s.here;
  order = Fence;
  rest = [];
  front = fence_front c place s.peer s.here (i s.peer s.here) a;
  is = ap to.BarrierRequest s.is;
  now = (λ j. let d : Control = record c { peers = s.now j; replies = slice_set c.replies place (awaited.Reply (s.is j)) } in d);
}

pub batch_sends : (s : Peer) → in_batch s.greets s.asks s.sends ≡ true → s.sends ≡ true
batch_sends s e = by_flags s.greets s.asks s.sends e
  where
    by_flags : (g a f : Bool) → in_batch g a f ≡ true → f ≡ true
    by_flags false false f e = e
    by_flags true a f e = absurd (cc)
    by_flags false true f e = absurd (cc)

-- ---- HELLO, the request, or neither

abbrev pub IsUngreeted : ℕ → List Peer → List Peer → Type 0
IsUngreeted place old new = (new ≡ old) × ((s : Peer) → slice_get old place ≡ Some s → (s.greets ≡ false) × (s.asks ≡ false))

pub greet_keeps : (r : Option Message) (c : Control) (place : ℕ) (peers : List Peer) → IsControl c → IfNone r (IsUngreeted place c.peers peers) → IfSome r (GreetsAt place c.peers peers) → IsControl (record c { peers = peers })
greet_keeps None c place peers h n g = subst (λ (zs : List Peer). IsControl (record c { peers = zs })) (sym n.0) h
greet_keeps (Some m) c place peers h n g = greets_keep c place peers m h g

pub greet_reads : (r : Option Message) (c : Control) (place : ℕ) (peers : List Peer) (spans : List Span) (cursors : List Cursor) → AreRead c spans cursors → IfNone r (IsUngreeted place c.peers peers) → IfSome r (GreetsAt place c.peers peers) → AreRead (record c { peers = peers }) spans cursors
greet_reads None c place peers spans cursors h n g = subst (λ (zs : List Peer). AreRead (record c { peers = zs }) spans cursors) (sym n.0) h
greet_reads (Some m) c place peers spans cursors h n g = greets_read c place peers m spans cursors h g

pub greet_nothing : (r : Option Message) (c : Control) (place : ℕ) (peers now : List Peer) → now ≡ peers → ((s : Peer) → slice_get c.peers place ≡ Some s → in_batch s.greets s.asks s.sends ≡ false) → IfNone r (IsUngreeted place c.peers peers) →
    IfNone r (¬ (MaySend place c) × ((let d : Control = record c { peers = now } in d) ≡ c))
greet_nothing (Some m) c place peers now e i n = tt
greet_nothing None c place peers now e i n = (greets_none c place n.1 i, ap (λ (zs : List Peer). let d : Control = record c { peers = zs } in d) (e ∙ n.0))

pub greet_sends : (r : Option Message) (c : Control) (place : ℕ) (peers now : List Peer) → now ≡ peers → c.halt ≡ None → IfSome r (GreetsAt place c.peers peers) → IfSome r (IsSent place c (record c { peers = now }))
greet_sends None c place peers now e running g = tt
greet_sends (Some m) c place peers now e running g = subst (λ (zs : List Peer). IsSent place c (record c { peers = zs }) m) (sym e) (greets_sent c place peers m running g)

-- ---- what is read for a switch

pub read_none : {R : Type 0} (r : Option R) (c : Control) (place : ℕ) (s : Peer) (x : Cursor) (spans : List Span) (cursors : List Cursor) → AreRead c spans cursors → slice_get c.peers place ≡ Some s → slice_get cursors place ≡ Some x →
    IfNone r (left_in c.versions c.phase s.sw s.next x ≡ []) → IfNone r (IsAtEnd place c)
read_none (Some y) c place s x spans cursors a p q h = tt
read_none None c place s x spans cursors a p q h = record { peer = s; here = p; left = a.each place s x p q ∙ h }

pub read_some : (r : Option NextDraft) (c : Control) (place : ℕ) (s : Peer) (x : Cursor) (spans : List Span) (cursors : List Cursor) → AreRead c spans cursors → slice_get c.peers place ≡ Some s → slice_get cursors place ≡ Some x →
    IfSome r (λ y. left_in c.versions c.phase s.sw s.next x ≡ drafted y.draft ∷ left_in c.versions c.phase s.sw (s.next + 1) y.cursor) → IfSome r (λ y. IsAtChange place (drafted y.draft) y.cursor c)
read_some None c place s x spans cursors a p q h = tt
read_some (Some y) c place s x spans cursors a p q h = record { peer = s; here = p; left = a.each place s x p q ∙ h }
