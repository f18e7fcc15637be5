use Rattle.std.proofs.Common.{◌≡◌, ◌∙◌, true, List, length, take, drop, ◌++◌, slice_get, Some, sym, ap, subst, arith}
use Rattle.openflow_wire.specs.declared.message.Message.TheVariants as to
use Rattle.update_coordinator.specs.Controls.{Peer, Control}
use Rattle.update_coordinator.specs.Kept.{IsControl}
use Rattle.update_coordinator.specs.Reading.{AreRead, IsAtEnd}
use Rattle.update_coordinator.specs.Sending.{IsSent}
use Rattle.update_coordinator.specs.Peers.{in_batch, FencesAt}
use Rattle.update_coordinator.proofs.Places.{whole}
use Rattle.update_coordinator.proofs.Kept.{free_for}
use Rattle.update_coordinator.proofs.Numbers.{small_number}
use Rattle.update_coordinator.proofs.Sent.{fences_keep, fences_read, fences_sent, batch_sends}
use Rattle.update_coordinator.proofs.coordinator.Coordinator.send_fence.Goals as goal

pub fence-xid-requires-clause-small : goal.fence-xid-requires-clause-small
fence-xid-requires-clause-small c =
    let old = c.self.inside in
    let c0 : Control = (record { phase = old.phase; halt = old.halt; versions = old.versions.items; peers = old.peers.items; replies = old.replies; rejoins = old.rejoins; overlap = old.overlap; swept = old.swept }) in
    let turn : (s : Peer) → slice_get old.peers.items c.args.place ≡ Some s → in_batch s.greets s.asks s.sends ≡ true = subst (λ (v : Control). (s : Peer) → slice_get v.peers c.args.place ≡ Some s → in_batch s.greets s.asks s.sends ≡ true) (sym c.self.view_is) c.requires.turn in
    λ s e. let here : slice_get old.peers.items c.args.place ≡ Some s = ap (λ (xs : List Peer). slice_get xs c.args.place) (sym c.deref_mut.ensures.value) ∙ e in
    (small_number c0 s (c.self.invariant.0.numbers c.args.place s here), batch_sends s (turn s here))

pub expect-requires-clause-unawaited : goal.expect-requires-clause-unawaited
expect-requires-clause-unawaited c =
    let old = c.self.inside in
    let c0 : Control = (record { phase = old.phase; halt = old.halt; versions = old.versions.items; peers = old.peers.items; replies = old.replies; rejoins = old.rejoins; overlap = old.overlap; swept = old.swept }) in
    let new = c.fence-xid.new.peers in
    let peers : take old.peers.len (new ++ drop (length new) old.peers.items) ≡ new = whole old.peers.len old.peers.items new (omega (arith, old.peers.ok)) (omega arith) in
    let turn : (s : Peer) → slice_get old.peers.items c.args.place ≡ Some s → in_batch s.greets s.asks s.sends ≡ true = subst (λ (v : Control). (s : Peer) → slice_get v.peers c.args.place ≡ Some s → in_batch s.greets s.asks s.sends ≡ true) (sym c.self.view_is) c.requires.turn in
    let fences : FencesAt c.args.place old.peers.items new c.fence-xid.result = subst (λ (xs : List Peer). FencesAt c.args.place xs new c.fence-xid.result) c.deref_mut.ensures.value c.fence-xid.ensures in
    free_for c0 c.args.place fences.peer c.self.invariant.0 fences.here (batch_sends fences.peer (turn fences.peer fences.here))

pub invariant_of-self : goal.invariant_of-self
invariant_of-self c =
    let old = c.self.inside in
    let c0 : Control = (record { phase = old.phase; halt = old.halt; versions = old.versions.items; peers = old.peers.items; replies = old.replies; rejoins = old.rejoins; overlap = old.overlap; swept = old.swept }) in
    let new = c.fence-xid.new.peers in
    let peers : take old.peers.len (new ++ drop (length new) old.peers.items) ≡ new = whole old.peers.len old.peers.items new (omega (arith, old.peers.ok)) (omega arith) in
    let turn : (s : Peer) → slice_get old.peers.items c.args.place ≡ Some s → in_batch s.greets s.asks s.sends ≡ true = subst (λ (v : Control). (s : Peer) → slice_get v.peers c.args.place ≡ Some s → in_batch s.greets s.asks s.sends ≡ true) (sym c.self.view_is) c.requires.turn in
    let fences : FencesAt c.args.place old.peers.items new c.fence-xid.result = subst (λ (xs : List Peer). FencesAt c.args.place xs new c.fence-xid.result) c.deref_mut.ensures.value c.fence-xid.ensures in
    let end : IsAtEnd c.args.place c0 = subst (λ (v : Control). IsAtEnd c.args.place v) (sym c.self.view_is) c.requires.end in (
      subst (λ (zs : List Peer). IsControl (record { phase = old.phase; halt = old.halt; versions = old.versions.items; peers = zs; replies = c.expect.new.self; rejoins = old.rejoins; overlap = old.overlap; swept = old.swept })) (sym peers) (rw c.expect.ensures (fences_keep c0 c.args.place c.fence-xid.result new c.self.invariant.0 turn end fences)),
      c.self.invariant.1,
      subst (λ (zs : List Peer). AreRead (record { phase = old.phase; halt = old.halt; versions = old.versions.items; peers = zs; replies = c.expect.new.self; rejoins = old.rejoins; overlap = old.overlap; swept = old.swept }) old.spans.items old.cursors.items) (sym peers) (rw c.expect.ensures (fences_read c0 c.args.place c.fence-xid.result new old.spans.items old.cursors.items c.self.invariant.2 fences)),
    )

pub returns-clause-sent : goal.returns-clause-sent
returns-clause-sent c =
    let old = c.self.inside in
    let c0 : Control = (record { phase = old.phase; halt = old.halt; versions = old.versions.items; peers = old.peers.items; replies = old.replies; rejoins = old.rejoins; overlap = old.overlap; swept = old.swept }) in
    let new = c.fence-xid.new.peers in
    let peers : take old.peers.len (new ++ drop (length new) old.peers.items) ≡ new = whole old.peers.len old.peers.items new (omega (arith, old.peers.ok)) (omega arith) in
    let turn : (s : Peer) → slice_get old.peers.items c.args.place ≡ Some s → in_batch s.greets s.asks s.sends ≡ true = subst (λ (v : Control). (s : Peer) → slice_get v.peers c.args.place ≡ Some s → in_batch s.greets s.asks s.sends ≡ true) (sym c.self.view_is) c.requires.turn in
    let fences : FencesAt c.args.place old.peers.items new c.fence-xid.result = subst (λ (xs : List Peer). FencesAt c.args.place xs new c.fence-xid.result) c.deref_mut.ensures.value c.fence-xid.ensures in
    let end : IsAtEnd c.args.place c0 = subst (λ (v : Control). IsAtEnd c.args.place v) (sym c.self.view_is) c.requires.end in
    rw (← c.self.view_is) (subst (λ (zs : List Peer). IsSent c.args.place c0 (record { phase = old.phase; halt = old.halt; versions = old.versions.items; peers = zs; replies = c.expect.new.self; rejoins = old.rejoins; overlap = old.overlap; swept = old.swept }) (to.BarrierRequest c.fence-xid.result)) (sym peers)
    (rw c.expect.ensures (fences_sent c0 c.args.place c.fence-xid.result new (ap (λ (v : Control). v.halt) c.self.view_is ∙ c.requires.running) turn end fences)))
