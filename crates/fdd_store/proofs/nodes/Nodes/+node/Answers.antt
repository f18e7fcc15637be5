use Rattle.std.proofs.Common.{arith, ap, ◌∙◌}
use Rattle.fdd_nodes.specs.Trees.{tree}
use Rattle.fdd_store.proofs.ForkLaws.{fall_then, fall_else}
use Rattle.fdd_store.proofs.nodes.Nodes.+node.Goals as goal

pub make-node-requires : goal.make-node-requires
make-node-requires t c = (
  let a = fall_then _ c.in-Fork.l _ _ _ _ c.in-Fork.ensures.look c.in-Fork.ensures.made in omega (arith, a),
  (c.in-Fork.ensures.look.has_then, c.requires.nodes),
)

pub make-node-requires-in-Fork : goal.make-node-requires-in-Fork
make-node-requires-in-Fork t c = (
  let a = fall_else _ c.in-Fork.l _ _ _ _ c.in-Fork.ensures.look c.in-Fork.ensures.made in omega (arith, a),
  (c.in-Fork.ensures.look.has_else, c.in_ok-yes-in-Fork.ensures.nodes),
)

pub node-returns-clause-nodes : goal.node-returns-clause-nodes
node-returns-clause-nodes t c = c.in_ok-keep.ensures c.args.store.now c.in_ok-made.ensures.nodes (c.requires.has, ap (λ n. tree n) c.in_ok-again.ensures.cases ∙ c.in_ok-made.ensures.node)
