use Rattle.fdd_store.proofs.GatherLaws.{copies_more, item_in}
use Rattle.std.proofs.Common.{◌∙◌, sym, ap}
use Rattle.fdd_nodes.specs.Trees as trees
use Rattle.fdd_store.proofs.store.Store.copies_of.Goals as goal

pub leaf-requires-clause-has : goal.leaf-requires-clause-has
leaf-requires-clause-has c = (c.requires c.leaf-item.result (item_in c.args.leaves.now _ _ c.loop-leaf-test.true c.leaf-item.is)).0

pub leaf-requires-clause-leaf : goal.leaf-requires-clause-leaf
leaf-requires-clause-leaf c = (c.requires c.leaf-item.result (item_in c.args.leaves.now _ _ c.loop-leaf-test.true c.leaf-item.is)).1

pub loop-leaf-preserved : goal.loop-leaf-preserved
loop-leaf-preserved c =
    copies_more c.args.self.now c.args.leaves.now _ _ _ _ _ c.loop-leaf-test.true c.leaf-item.is c.loop-leaf.invariant (c.leaf.ensures ∙ ap trees.Leaf (sym c.copies.ensures.list)) c.in_ok-push_copies.ensures
