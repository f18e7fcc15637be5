use Rattle.fdd_store.proofs.ForkLaws.{strips_free}
use Rattle.fdd_store.proofs.store.Store.is_clean.Goals as goal

pub returns-in-Leaf-clause-clean : goal.returns-in-Leaf-clause-clean
returns-in-Leaf-clause-clean c = λ y. strips_free c.args.l.now _ _ _ _ c.leaf.ensures c.copies.ensures.list c.of.ensures (c.are_disjoint.ensures y)
