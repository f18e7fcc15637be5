use Rattle.fdd_store.proofs.store.Store.tree.Goals as goal

pub node-requires-clause-nodes : goal.node-requires-clause-nodes
node-requires-clause-nodes c = c.new-nodes.ensures c.args.self.now
