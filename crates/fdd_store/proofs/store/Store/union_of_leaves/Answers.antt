use Rattle.fdd_store.proofs.ForkLaws.{if_ok}
use Rattle.fdd_store.proofs.StoreLaws.{gives_as}
use Rattle.fdd_store.proofs.GatherLaws.{gathered_leaves}
use Rattle.fdd_store.proofs.store.Store.union_of_leaves.Goals as goal

pub returns-clause-place : goal.returns-clause-place
returns-clause-place c =
    if_ok c.put_leaf.result _ _ c.put_leaf.ensures.place (λ r g. gives_as _ r _ _ (λ x w.
    gathered_leaves c.args.self.now c.args.leaves.now _ _ c.requires c.in_ok-copies.ensures c.in_ok-leaf.ensures x w) g)
