use Rattle.std.proofs.Common.{◌≡◌, ◌∙◌, false, List, length, take, drop, ◌++◌, slice_get, Some, sym, ap, subst, arith}
use Rattle.update_coordinator.specs.Controls.{Peer, Control}
use Rattle.update_coordinator.specs.Kept.{IsControl}
use Rattle.update_coordinator.specs.Reading.{AreRead}
use Rattle.update_coordinator.specs.Peers.{in_batch, GreetsAt}
use Rattle.update_coordinator.proofs.Places.{whole}
use Rattle.update_coordinator.proofs.Numbers.{small_number}
use Rattle.std.proofs.Common.{IfNone, IfSome}
use Rattle.update_coordinator.proofs.Sent.{IsUngreeted, greet_keeps, greet_reads, greet_nothing, greet_sends}
use Rattle.update_coordinator.proofs.coordinator.Coordinator.greet.Goals as goal

pub greet-requires-clause-small : goal.greet-requires-clause-small
greet-requires-clause-small c =
    let old = c.self.inside in
    let c0 : Control = (record { phase = old.phase; halt = old.halt; versions = old.versions.items; peers = old.peers.items; replies = old.replies; rejoins = old.rejoins; overlap = old.overlap; swept = old.swept }) in
    λ s e. small_number c0 s (c.self.invariant.0.numbers c.args.place s (ap (λ (xs : List Peer). slice_get xs c.args.place) (sym c.deref_mut.ensures.value) ∙ e))

pub invariant_of-self : goal.invariant_of-self
invariant_of-self c =
    let old = c.self.inside in
    let c0 : Control = (record { phase = old.phase; halt = old.halt; versions = old.versions.items; peers = old.peers.items; replies = old.replies; rejoins = old.rejoins; overlap = old.overlap; swept = old.swept }) in
    let new = c.greet.new.peers in
    let peers : take old.peers.len (new ++ drop (length new) old.peers.items) ≡ new = whole old.peers.len old.peers.items new (omega (arith, old.peers.ok)) (omega arith) in
    let none : IfNone c.greet.result (IsUngreeted c.args.place old.peers.items new) = subst (λ (xs : List Peer). IfNone c.greet.result (IsUngreeted c.args.place xs new)) c.deref_mut.ensures.value c.greet.ensures.none in
    let some : IfSome c.greet.result (GreetsAt c.args.place old.peers.items new) = subst (λ (xs : List Peer). IfSome c.greet.result (GreetsAt c.args.place xs new)) c.deref_mut.ensures.value c.greet.ensures.some in (
      subst (λ (zs : List Peer). IsControl (record { phase = old.phase; halt = old.halt; versions = old.versions.items; peers = zs; replies = old.replies; rejoins = old.rejoins; overlap = old.overlap; swept = old.swept })) (sym peers) (greet_keeps c.greet.result c0 c.args.place new c.self.invariant.0 none some),
      c.self.invariant.1,
      subst (λ (zs : List Peer). AreRead (record { phase = old.phase; halt = old.halt; versions = old.versions.items; peers = zs; replies = old.replies; rejoins = old.rejoins; overlap = old.overlap; swept = old.swept }) old.spans.items old.cursors.items) (sym peers) (greet_reads c.greet.result c0 c.args.place new old.spans.items old.cursors.items c.self.invariant.2 none some),
    )

pub returns-clause-none : goal.returns-clause-none
returns-clause-none c =
    let old = c.self.inside in
    let c0 : Control = (record { phase = old.phase; halt = old.halt; versions = old.versions.items; peers = old.peers.items; replies = old.replies; rejoins = old.rejoins; overlap = old.overlap; swept = old.swept }) in
    let new = c.greet.new.peers in
    let peers : take old.peers.len (new ++ drop (length new) old.peers.items) ≡ new = whole old.peers.len old.peers.items new (omega (arith, old.peers.ok)) (omega arith) in
    let none : IfNone c.greet.result (IsUngreeted c.args.place old.peers.items new) = subst (λ (xs : List Peer). IfNone c.greet.result (IsUngreeted c.args.place xs new)) c.deref_mut.ensures.value c.greet.ensures.none in
    let some : IfSome c.greet.result (GreetsAt c.args.place old.peers.items new) = subst (λ (xs : List Peer). IfSome c.greet.result (GreetsAt c.args.place xs new)) c.deref_mut.ensures.value c.greet.ensures.some in
    let turn : (s : Peer) → slice_get old.peers.items c.args.place ≡ Some s → in_batch s.greets s.asks s.sends ≡ false = subst (λ (v : Control). (s : Peer) → slice_get v.peers c.args.place ≡ Some s → in_batch s.greets s.asks s.sends ≡ false) (sym c.self.view_is) c.requires.turn in
    rw (← c.self.view_is) (greet_nothing c.greet.result c0 c.args.place new (take old.peers.len (new ++ drop (length new) old.peers.items)) peers turn none)

pub returns-clause-some : goal.returns-clause-some
returns-clause-some c =
    let old = c.self.inside in
    let c0 : Control = (record { phase = old.phase; halt = old.halt; versions = old.versions.items; peers = old.peers.items; replies = old.replies; rejoins = old.rejoins; overlap = old.overlap; swept = old.swept }) in
    let new = c.greet.new.peers in
    let peers : take old.peers.len (new ++ drop (length new) old.peers.items) ≡ new = whole old.peers.len old.peers.items new (omega (arith, old.peers.ok)) (omega arith) in
    let none : IfNone c.greet.result (IsUngreeted c.args.place old.peers.items new) = subst (λ (xs : List Peer). IfNone c.greet.result (IsUngreeted c.args.place xs new)) c.deref_mut.ensures.value c.greet.ensures.none in
    let some : IfSome c.greet.result (GreetsAt c.args.place old.peers.items new) = subst (λ (xs : List Peer). IfSome c.greet.result (GreetsAt c.args.place xs new)) c.deref_mut.ensures.value c.greet.ensures.some in
    rw (← c.self.view_is) (greet_sends c.greet.result c0 c.args.place new (take old.peers.len (new ++ drop (length new) old.peers.items)) peers (ap (λ (v : Control). v.halt) c.self.view_is ∙ c.requires.running) some)
