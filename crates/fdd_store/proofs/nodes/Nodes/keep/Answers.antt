use Rattle.std.proofs.Common.{rules, ◌≡◌, length, sym, subst}
use Rattle.fdd_store.specs.NodeLists.{AreNodesOf}
use Rattle.fdd_store.proofs.NodeLaws.{node_added, node_set}
use Rattle.fdd_store.proofs.nodes.Nodes.keep.Goals as goal

pub returns-in-Some : goal.returns-in-Some
returns-in-Some c = λ k h w. node_set k _ c.args.a c.place-place.result c.args.node c.place-place.ensures (c.in_ok-reach.ensures.nodes k h) w

pub returns-in_ok-push-in-None : goal.returns-in_ok-push-in-None
returns-in_ok-push-in-None c = λ k h w.
    let reached = c.in_ok-reach.ensures.reached in
    let full : length c.reach.new.self.made.items ≡ c.args.a = search rules in
    subst (AreNodesOf k) (sym c.in_ok-push-in-None.ensures.items) (node_added k _ c.args.a c.args.node full (c.in_ok-reach.ensures.nodes k h) w)
