use Rattle.std.proofs.Common.{subst, List}
use Rattle.nk_values.specs.declared.packet.Packet.{Packet}
use Rattle.fdd_store.specs.Stores.{tree_at}
use Rattle.fdd_star.specs.Narrow.{IsOn}
use Rattle.fdd_star.proofs.NarrowLaws.{at_on, narrowed_on, ok_on}
use Rattle.fdd_star.proofs.narrow.on_reached.Goals as goal

pub returns-then-branch-clause-body : goal.returns-then-branch-clause-body
returns-then-branch-clause-body c =
    let closed = c.in_ok-add_led_to.ensures c.if-branch.true in
    ok_on c.on_cells.result _ _ (at_on _ _ _ (λ r h. narrowed_on _ _ _ r closed (subst (λ (cs : List Packet). IsOn cs (tree_at c.args.store.now c.args.p) r) c.as_slice.ensures.keys h))) c.on_cells.ensures.on
