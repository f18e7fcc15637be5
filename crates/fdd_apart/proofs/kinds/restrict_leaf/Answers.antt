use Rattle.std.proofs.Common.{[], ap, sym, subst, ◌∙◌}
use Rattle.nk_values.specs.declared.packet.Packet.{Packet}
use Rattle.fdd_nodes.specs.Trees.{Tree, Leaf}
use Rattle.fdd_store.specs.Leaves.{AddsCopies}
use Rattle.fdd_store.specs.Stores.{tree_at}
use Rattle.fdd_store.proofs.ForkLaws.{if_ok}
use Rattle.fdd_store.proofs.StoreLaws.{gives_as}
use Rattle.fdd_apart.specs.Kinds.{Restricts}
use Rattle.fdd_apart.proofs.KindLaws.{restricts_leaf}
use Rattle.fdd_apart.proofs.kinds.restrict_leaf.Goals as goal

pub returns-clause-only : goal.returns-clause-only
returns-clause-only c =
    let a = tree_at c.args.store.now c.args.a in
    let is = c.leaf.ensures ∙ ap Leaf (sym c.copies.ensures.list) in
    let adds = subst (λ (q : Packet). AddsCopies q c.copies.result.now [] c.in_ok-leaf.leaf) c.cell.ensures c.in_ok-leaf.ensures in
    if_ok c.put_leaf.result _ _ c.put_leaf.ensures.place (λ r g. gives_as _ r _ _
    (λ t e. subst (λ (x : Tree). Restricts c.args.frame a x) (sym e) (restricts_leaf c.args.frame a _ _ is adds)) g)
