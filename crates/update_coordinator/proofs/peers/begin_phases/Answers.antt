use Rattle.std.proofs.Common.{◌≡◌, ◌++◌, ◌∙◌, Some, map, take, drop, get_or, slice_get, slice_set, sym, ap, add-one, arith}
use Rattle.std.proofs.lemmas.Option.{slice_get-get_or}
use Rattle.update_coordinator.specs.Controls.{begun_peer}
use Rattle.update_coordinator.proofs.Places.{at_front, set_front}
use Rattle.update_coordinator.proofs.peers.begin_phases.Goals as goal

pub loop-peer-preserved : goal.loop-peer-preserved
loop-peer-preserved c =
    let xs = c.args.peers.now in
    let i = c.loop-peer.peer-index in
    let x = get_or c.loop-peer.peers i c.peer-item.result in
    let inv : c.loop-peer.peers ≡ map (begun_peer c.args.works) (take i xs) ++ drop i xs = c.loop-peer.invariant in
    let here : slice_get c.loop-peer.peers i ≡ Some x = slice_get-get_or c.loop-peer.peers i c.peer-item.result (omega arith) in
    let there : slice_get xs i ≡ Some x = sym (at_front (begun_peer c.args.works) xs i) ∙ ap (λ ys. slice_get ys i) (sym inv) ∙ here in
    ap (λ ys. slice_set ys i c.begin_phase.new.self) inv ∙ ap (slice_set (map (begun_peer c.args.works) (take i xs) ++ drop i xs) i) c.begin_phase.ensures ∙ set_front (begun_peer c.args.works) xs i x there ∙ ap (λ n. map (begun_peer c.args.works) (take n xs) ++ drop n xs) (sym (add-one i))
