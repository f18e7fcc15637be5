use Rattle.fdd_nodes.proofs.GatherLaws.{same_on, same_sorted}
use Rattle.fdd_nodes.proofs.leaf.Leaf.gathered.Goals as goal

pub returns : goal.returns
returns c = same_on _ _ _ (same_sorted _ _ _ c.sort_unstable.ensures.permutation c.in_ok-put_all.ensures) c.in_ok-copies.ensures
