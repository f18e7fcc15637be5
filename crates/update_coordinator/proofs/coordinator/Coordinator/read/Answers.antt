use Rattle.std.proofs.Common.{◌≡◌, ◌∙◌, ◌<◌, ◌+◌, ℕ, List, length, slice_get, Some, sym, ap, subst, arith}
use Rattle.update_plan.specs.declared.cursor.Cursor.{Cursor}
use Rattle.update_coordinator.specs.Controls.{Peer, Control}
use Rattle.nk_values.specs.declared.rows.Rows.{Rows}
use Rattle.std.proofs.lemmas.Option.{slice_get-get_or}
use Rattle.std.proofs.Common.{IfNone, IfSome, [], ◌∷◌}
use Rattle.update_coordinator.specs.Drafts.{drafted}
use Rattle.update_coordinator.specs.Reading.{left_in}
use Rattle.update_coordinator.proofs.Sent.{read_none, read_some}
use Rattle.update_coordinator.proofs.coordinator.Coordinator.read.Goals as goal

pub returns-clause-none : goal.returns-clause-none
returns-clause-none c =
    let old = c.self.inside in
    let c0 : Control = (record { phase = old.phase; halt = old.halt; versions = old.versions.items; peers = old.peers.items; replies = old.replies; rejoins = old.rejoins; overlap = old.overlap; swept = old.swept }) in
    let s = c.index-peer.result.now in
    let x = c.index-2.result.now in
    let within : c.args.place < length old.peers.items = subst (λ (v : Control). c.args.place < length v.peers) (sym c.self.view_is) c.requires.within in
    let here : slice_get old.peers.items c.args.place ≡ Some s = slice_get-get_or old.peers.items c.args.place s within ∙ ap (λ (z : Peer). Some z) (sym c.index-peer.ensures) in
    let cursor : c.args.place < length old.cursors.items = omega (arith, within, c.self.invariant.2.count) in
    let there : slice_get old.cursors.items c.args.place ≡ Some x = slice_get-get_or old.cursors.items c.args.place x cursor ∙ ap (λ (z : Cursor). Some z) (sym c.index-2.ensures) in
    let at : IfNone c.read_in.result (left_in old.versions.items old.phase s.sw s.next x ≡ []) =
    subst (λ (vs : List Rows). IfNone c.read_in.result (left_in vs old.phase s.sw s.next x ≡ [])) c.deref.ensures.value
    (subst (λ (n : ℕ). IfNone c.read_in.result (left_in c.deref.result.now old.phase n s.next x ≡ [])) c.sw.ensures
    (subst (λ (n : ℕ). IfNone c.read_in.result (left_in c.deref.result.now old.phase c.sw.result n x ≡ [])) c.next.ensures c.read_in.ensures.none)) in
    rw (← c.self.view_is) (read_none c.read_in.result c0 c.args.place s x old.spans.items old.cursors.items c.self.invariant.2 here there at)

pub returns-clause-some : goal.returns-clause-some
returns-clause-some c =
    let old = c.self.inside in
    let c0 : Control = (record { phase = old.phase; halt = old.halt; versions = old.versions.items; peers = old.peers.items; replies = old.replies; rejoins = old.rejoins; overlap = old.overlap; swept = old.swept }) in
    let s = c.index-peer.result.now in
    let x = c.index-2.result.now in
    let within : c.args.place < length old.peers.items = subst (λ (v : Control). c.args.place < length v.peers) (sym c.self.view_is) c.requires.within in
    let here : slice_get old.peers.items c.args.place ≡ Some s = slice_get-get_or old.peers.items c.args.place s within ∙ ap (λ (z : Peer). Some z) (sym c.index-peer.ensures) in
    let cursor : c.args.place < length old.cursors.items = omega (arith, within, c.self.invariant.2.count) in
    let there : slice_get old.cursors.items c.args.place ≡ Some x = slice_get-get_or old.cursors.items c.args.place x cursor ∙ ap (λ (z : Cursor). Some z) (sym c.index-2.ensures) in
    let at : IfSome c.read_in.result (λ y. left_in old.versions.items old.phase s.sw s.next x ≡ drafted y.draft ∷ left_in old.versions.items old.phase s.sw (s.next + 1) y.cursor) =
    subst (λ (vs : List Rows). IfSome c.read_in.result (λ y. left_in vs old.phase s.sw s.next x ≡ drafted y.draft ∷ left_in vs old.phase s.sw (s.next + 1) y.cursor)) c.deref.ensures.value
    (subst (λ (n : ℕ). IfSome c.read_in.result (λ y. left_in c.deref.result.now old.phase n s.next x ≡ drafted y.draft ∷ left_in c.deref.result.now old.phase n (s.next + 1) y.cursor)) c.sw.ensures
    (subst (λ (n : ℕ). IfSome c.read_in.result (λ y. left_in c.deref.result.now old.phase c.sw.result n x ≡ drafted y.draft ∷ left_in c.deref.result.now old.phase c.sw.result (n + 1) y.cursor)) c.next.ensures c.read_in.ensures.some)) in
    rw (← c.self.view_is) (read_some c.read_in.result c0 c.args.place s x old.spans.items old.cursors.items c.self.invariant.2 here there at)
