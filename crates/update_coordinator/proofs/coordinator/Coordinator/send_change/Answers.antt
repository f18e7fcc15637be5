use Rattle.std.proofs.Common.{◌≡◌, ◌∙◌, ◌<◌, true, List, length, take, drop, ◌++◌, slice_get, slice_set, Some, sym, ap, subst, arith}
use Rattle.update_coordinator.specs.Controls.{Peer, Control, Change}
use Rattle.update_coordinator.specs.Kept.{IsControl}
use Rattle.update_coordinator.specs.Reading.{AreRead, IsAtChange}
use Rattle.update_coordinator.specs.Sending.{IsSent}
use Rattle.update_coordinator.specs.Peers.{in_batch, SendsAt}
use Rattle.update_coordinator.proofs.Places.{whole}
use Rattle.update_coordinator.proofs.Sent.{change_small, change_keeps, changes_read, change_sent, change_fits}
use Rattle.update_coordinator.proofs.coordinator.Coordinator.send_change.Goals as goal

pub change-message-requires-clause-small : goal.change-message-requires-clause-small
change-message-requires-clause-small c =
    let old = c.self.inside in
    let c0 : Control = (record { phase = old.phase; halt = old.halt; versions = old.versions.items; peers = old.peers.items; replies = old.replies; rejoins = old.rejoins; overlap = old.overlap; swept = old.swept }) in
    let at : IsAtChange c.args.place c.args.change c.args.cursor c0 = subst (λ (v : Control). IsAtChange c.args.place c.args.change c.args.cursor v) (sym c.self.view_is) c.requires.change in
    λ s e. change_small c0 c.args.place c.args.change c.args.cursor c.self.invariant.0 at s (ap (λ (xs : List Peer). slice_get xs c.args.place) (sym c.deref_mut.ensures.value) ∙ e)

pub invariant_of-self : goal.invariant_of-self
invariant_of-self c =
    let old = c.self.inside in
    let c0 : Control = (record { phase = old.phase; halt = old.halt; versions = old.versions.items; peers = old.peers.items; replies = old.replies; rejoins = old.rejoins; overlap = old.overlap; swept = old.swept }) in
    let new = c.change-message.new.peers in
    let peers : take old.peers.len (new ++ drop (length new) old.peers.items) ≡ new = whole old.peers.len old.peers.items new (omega (arith, old.peers.ok)) (omega arith) in
    let turn : (s : Peer) → slice_get old.peers.items c.args.place ≡ Some s → in_batch s.greets s.asks s.sends ≡ true = subst (λ (v : Control). (s : Peer) → slice_get v.peers c.args.place ≡ Some s → in_batch s.greets s.asks s.sends ≡ true) (sym c.self.view_is) c.requires.turn in
    let sends : SendsAt c.args.place (Change c.args.change) old.peers.items new c.change-message.result = subst (λ (xs : List Peer). SendsAt c.args.place (Change c.args.change) xs new c.change-message.result) c.deref_mut.ensures.value c.change-message.ensures in
    let at : IsAtChange c.args.place c.args.change c.args.cursor c0 = subst (λ (v : Control). IsAtChange c.args.place c.args.change c.args.cursor v) (sym c.self.view_is) c.requires.change in (
      subst (λ (zs : List Peer). IsControl (record { phase = old.phase; halt = old.halt; versions = old.versions.items; peers = zs; replies = old.replies; rejoins = old.rejoins; overlap = old.overlap; swept = old.swept })) (sym peers) (change_keeps c0 c.args.place c.args.change c.args.cursor new c.change-message.result c.self.invariant.0 turn at sends),
      c.self.invariant.1,
      subst (λ (zs : List Peer). AreRead (record { phase = old.phase; halt = old.halt; versions = old.versions.items; peers = zs; replies = old.replies; rejoins = old.rejoins; overlap = old.overlap; swept = old.swept }) old.spans.items (slice_set old.cursors.items c.args.place c.args.cursor)) (sym peers) (changes_read c0 c.args.place c.args.change c.args.cursor new c.change-message.result old.spans.items old.cursors.items c.self.invariant.2 at sends),
    )

pub returns-clause-sent : goal.returns-clause-sent
returns-clause-sent c =
    let old = c.self.inside in
    let c0 : Control = (record { phase = old.phase; halt = old.halt; versions = old.versions.items; peers = old.peers.items; replies = old.replies; rejoins = old.rejoins; overlap = old.overlap; swept = old.swept }) in
    let new = c.change-message.new.peers in
    let peers : take old.peers.len (new ++ drop (length new) old.peers.items) ≡ new = whole old.peers.len old.peers.items new (omega (arith, old.peers.ok)) (omega arith) in
    let turn : (s : Peer) → slice_get old.peers.items c.args.place ≡ Some s → in_batch s.greets s.asks s.sends ≡ true = subst (λ (v : Control). (s : Peer) → slice_get v.peers c.args.place ≡ Some s → in_batch s.greets s.asks s.sends ≡ true) (sym c.self.view_is) c.requires.turn in
    let sends : SendsAt c.args.place (Change c.args.change) old.peers.items new c.change-message.result = subst (λ (xs : List Peer). SendsAt c.args.place (Change c.args.change) xs new c.change-message.result) c.deref_mut.ensures.value c.change-message.ensures in
    let at : IsAtChange c.args.place c.args.change c.args.cursor c0 = subst (λ (v : Control). IsAtChange c.args.place c.args.change c.args.cursor v) (sym c.self.view_is) c.requires.change in
    rw (← c.self.view_is) (subst (λ (zs : List Peer). IsSent c.args.place c0 (record { phase = old.phase; halt = old.halt; versions = old.versions.items; peers = zs; replies = old.replies; rejoins = old.rejoins; overlap = old.overlap; swept = old.swept }) c.change-message.result) (sym peers)
    (change_sent c0 c.args.place c.args.change c.args.cursor new c.change-message.result (ap (λ (v : Control). v.halt) c.self.view_is ∙ c.requires.running) turn at sends))

pub returns-clause-fits : goal.returns-clause-fits
returns-clause-fits c =
    let old = c.self.inside in
    let c0 : Control = (record { phase = old.phase; halt = old.halt; versions = old.versions.items; peers = old.peers.items; replies = old.replies; rejoins = old.rejoins; overlap = old.overlap; swept = old.swept }) in
    let new = c.change-message.new.peers in
    let peers : take old.peers.len (new ++ drop (length new) old.peers.items) ≡ new = whole old.peers.len old.peers.items new (omega (arith, old.peers.ok)) (omega arith) in
    let sends : SendsAt c.args.place (Change c.args.change) old.peers.items new c.change-message.result = subst (λ (xs : List Peer). SendsAt c.args.place (Change c.args.change) xs new c.change-message.result) c.deref_mut.ensures.value c.change-message.ensures in
    let at : IsAtChange c.args.place c.args.change c.args.cursor c0 = subst (λ (v : Control). IsAtChange c.args.place c.args.change c.args.cursor v) (sym c.self.view_is) c.requires.change in
    change_fits c0 c.args.place c.args.change c.args.cursor new c.change-message.result c.self.invariant.0 at sends

pub index_mut-requires : goal.index_mut-requires
index_mut-requires c =
    let within : c.args.place < length c.self.inside.peers.items = subst (λ (v : Control). c.args.place < length v.peers) (sym c.self.view_is) c.requires.within in
    omega (arith, within, c.self.invariant.2.count, c.self.inside.cursors.ok)
