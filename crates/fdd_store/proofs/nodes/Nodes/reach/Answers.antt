use Rattle.std.proofs.Common.{rules, sym, subst}
use Rattle.fdd_store.specs.NodeLists.{AreNodesOf}
use Rattle.fdd_store.proofs.NodeLaws.{nothing_added}
use Rattle.fdd_store.proofs.nodes.Nodes.reach.Goals as goal

pub loop-preserved : goal.loop-preserved
loop-preserved c = (
  λ k h. subst (AreNodesOf k) (sym c.in_ok-push.ensures.items) (nothing_added k _ (c.loop.invariant.0 k h)),
  let before = c.loop.invariant.1 in search rules,
)
