use Rattle.std.proofs.Common.{◌≡◌, ◌∙◌, List, length, take, drop, ◌++◌, sym, ap, subst, arith}
use Rattle.update_coordinator.specs.Controls.{Peer, Control}
use Rattle.update_coordinator.specs.Kept.{IsControl}
use Rattle.update_coordinator.specs.Reading.{AreRead}
use Rattle.update_coordinator.specs.Peers.{ReturnsAt}
use Rattle.std.proofs.lemmas.Option.{get_or_from_slice_get}
use Rattle.update_coordinator.proofs.Places.{whole}
use Rattle.update_coordinator.proofs.Kept.{back_keeps, none_by}
use Rattle.update_coordinator.proofs.Cursors.{back_read}
use Rattle.update_coordinator.proofs.coordinator.Coordinator.rejoin.Goals as goal

pub invariant_of-self : goal.invariant_of-self
invariant_of-self c =
    let old = c.self.inside in
    let c0 : Control = (record { phase = old.phase; halt = old.halt; versions = old.versions.items; peers = old.peers.items; replies = old.replies; rejoins = old.rejoins; overlap = old.overlap; swept = old.swept }) in
    let new = c.come_back.new.peers in
    let peers : take old.peers.len (new ++ drop (length new) old.peers.items) ≡ new = whole old.peers.len old.peers.items new (omega (arith, old.peers.ok)) (omega arith) in
    let backs : ReturnsAt c.args.place old.peers.items new = subst (λ (xs : List Peer). ReturnsAt c.args.place xs new) c.deref_mut.ensures.value c.come_back.ensures in (
      subst (λ (zs : List Peer). IsControl (record { phase = old.phase; halt = old.halt; versions = old.versions.items; peers = zs; replies = old.replies; rejoins = old.rejoins; overlap = old.overlap; swept = old.swept })) (sym peers) (back_keeps c0 c.args.place new c.self.invariant.0
          (λ s e. ap (λ (t : Peer). t.away) (sym (c.index.ensures ∙ get_or_from_slice_get old.peers.items c.args.place s _ e)) ∙ sym c.is_away.ensures ∙ c.if-not-is_away.false) backs),
      c.self.invariant.1,
      subst (λ (zs : List Peer). AreRead (record { phase = old.phase; halt = old.halt; versions = old.versions.items; peers = zs; replies = old.replies; rejoins = old.rejoins; overlap = old.overlap; swept = old.swept }) old.spans.items old.cursors.items) (sym peers) (back_read c0 c.args.place new old.spans.items old.cursors.items c.self.invariant.2 backs),
    )

pub returns-clause-ok : goal.returns-clause-ok
returns-clause-ok c =
    let old = c.self.inside in
    let c0 : Control = (record { phase = old.phase; halt = old.halt; versions = old.versions.items; peers = old.peers.items; replies = old.replies; rejoins = old.rejoins; overlap = old.overlap; swept = old.swept }) in
    let new = c.come_back.new.peers in
    let peers : take old.peers.len (new ++ drop (length new) old.peers.items) ≡ new = whole old.peers.len old.peers.items new (omega (arith, old.peers.ok)) (omega arith) in
    let r : ReturnsAt c.args.place old.peers.items new = subst (λ (xs : List Peer). ReturnsAt c.args.place xs new) c.deref_mut.ensures.value c.come_back.ensures in
    rw (← c.self.view_is) (record {
      running = none_by old.halt (sym c.is_some.ensures ∙ c.if-is_some.false);
      peer = r.peer;
      here = r.here;
      away = ap (λ (t : Peer). t.away) (sym (c.index.ensures ∙ get_or_from_slice_get old.peers.items c.args.place r.peer _ r.here)) ∙ sym c.is_away.ensures ∙ c.if-not-is_away.false;
      now = ap (λ (zs : List Peer). let d : Control = (record { phase = old.phase; halt = old.halt; versions = old.versions.items; peers = zs; replies = old.replies; rejoins = old.rejoins; overlap = old.overlap; swept = old.swept }) in d) (peers ∙ r.now);
    })
