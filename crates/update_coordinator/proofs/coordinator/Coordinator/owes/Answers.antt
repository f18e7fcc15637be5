use Rattle.std.proofs.Common.{◌≡◌, ◌∙◌, ◌<◌, length, slice_get, Some, sym, ap, subst}
use Rattle.update_coordinator.specs.Controls.{Peer, Control}
use Rattle.update_coordinator.proofs.Kept.{owes_by, silent_owes}
use Rattle.std.proofs.lemmas.Option.{slice_get-get_or}
use Rattle.update_coordinator.proofs.coordinator.Coordinator.owes.Goals as goal

pub returns-else-is_asked-clause-owed : goal.returns-else-is_asked-clause-owed
returns-else-is_asked-clause-owed c =
    let old = c.self.inside in
    let c0 : Control = (record { phase = old.phase; halt = old.halt; versions = old.versions.items; peers = old.peers.items; replies = old.replies; rejoins = old.rejoins; overlap = old.overlap; swept = old.swept }) in
    let s = c.index.result.now in
    let within : c.args.place < length old.peers.items = subst (λ (v : Control). c.args.place < length v.peers) (sym c.self.view_is) c.requires in
    let here : slice_get old.peers.items c.args.place ≡ Some s = slice_get-get_or old.peers.items c.args.place s within ∙ ap (λ (z : Peer). Some z) (sym c.index.ensures) in
    rw (← c.self.view_is) (owes_by c0 c.args.place s c.owes.result here (sym c.is_asked.ensures ∙ c.if-is_asked.false) c.owes.ensures)

pub returns-then-is_asked-clause-away : goal.returns-then-is_asked-clause-away
returns-then-is_asked-clause-away c = rw (← c.self.view_is) (silent_owes _ c.args.place c.self.invariant.0)

pub returns-else-is_asked-clause-away : goal.returns-else-is_asked-clause-away
returns-else-is_asked-clause-away c = rw (← c.self.view_is) (silent_owes _ c.args.place c.self.invariant.0)
