use Rattle.std.proofs.Common.{◌≡◌, ◌∙◌, ◌<◌, ◌-◌, List, length, take, drop, ◌++◌, slice_get, sym, ap, subst, arith}
use Rattle.update_coordinator.specs.Controls.{Peer, Control}
use Rattle.update_coordinator.specs.Kept.{IsControl}
use Rattle.update_coordinator.specs.Reading.{AreRead}
use Rattle.update_coordinator.specs.Peers.{LosesAt}
use Rattle.update_coordinator.proofs.Places.{whole}
use Rattle.update_coordinator.proofs.Kept.{lost_keeps}
use Rattle.update_coordinator.proofs.Cursors.{lost_read}
use Rattle.update_coordinator.proofs.coordinator.Coordinator.lose.Goals as goal

pub invariant_of-self : goal.invariant_of-self
invariant_of-self c =
    let old = c.self.inside in
    let c0 : Control = (record { phase = old.phase; halt = old.halt; versions = old.versions.items; peers = old.peers.items; replies = old.replies; rejoins = old.rejoins; overlap = old.overlap; swept = old.swept }) in
    let new = c.lose.new.peers in
    let peers : take old.peers.len (new ++ drop (length new) old.peers.items) ≡ new = whole old.peers.len old.peers.items new (omega (arith, old.peers.ok)) (omega arith) in
    let loses : LosesAt c.args.place old.peers.items new = subst (λ (xs : List Peer). LosesAt c.args.place xs new) c.deref_mut.ensures.value c.lose.ensures in
    let some : 0 < old.rejoins = subst (λ (v : Control). 0 < v.rejoins) (sym c.self.view_is) c.requires.some in (
      subst (λ (zs : List Peer). IsControl (record { phase = old.phase; halt = old.halt; versions = old.versions.items; peers = zs; replies = c.forget.new.self; rejoins = old.rejoins - 1; overlap = old.overlap; swept = old.swept })) (sym peers) (rw c.forget.ensures (lost_keeps c0 c.args.place new c.self.invariant.0 some loses)),
      c.self.invariant.1,
      subst (λ (zs : List Peer). AreRead (record { phase = old.phase; halt = old.halt; versions = old.versions.items; peers = zs; replies = c.forget.new.self; rejoins = old.rejoins - 1; overlap = old.overlap; swept = old.swept }) old.spans.items old.cursors.items) (sym peers) (lost_read c0 c.args.place (old.rejoins - 1) new c.forget.new.self old.spans.items old.cursors.items c.self.invariant.2 loses),
    )

pub lose-requires-clause-few : goal.lose-requires-clause-few
lose-requires-clause-few c =
    let some : 0 < c.self.inside.rejoins = subst (λ (v : Control). 0 < v.rejoins) (sym c.self.view_is) c.requires.some in
    λ s e. let h = c.self.invariant.0.losses c.args.place s (ap (λ (xs : List Peer). slice_get xs c.args.place) (sym c.deref_mut.ensures.value) ∙ e) in omega (arith, h, some)
