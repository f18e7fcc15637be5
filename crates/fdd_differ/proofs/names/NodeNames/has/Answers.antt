use Rattle.fdd_differ.proofs.NameLaws.{tree_names}
use Rattle.fdd_differ.proofs.names.NodeNames.has.Goals as goal

pub returns : goal.returns
returns c = let r = tree_names _ _ _ in (λ h. r.0 (c.node_has.ensures.0 h), λ h. c.node_has.ensures.1 (r.1 h))
