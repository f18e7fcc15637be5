use Rattle.fdd_differ.proofs.DifferLaws.{alike_named, shows_named}
use Rattle.fdd_differ.proofs.differ.difference.Goals as goal

pub returns-in-None : goal.returns-in-None
returns-in-None c = alike_named _ _ _ _ _ c.root-a.ensures c.root-b.ensures c.whole.ensures c.in-None.ensures

pub returns-in-Some : goal.returns-in-Some
returns-in-Some c = shows_named _ _ _ _ _ _ _ _ c.root-a.ensures c.root-b.ensures c.whole.ensures c.filled.ensures c.args.a.now.ordered c.args.b.now.ordered c.in-Some.ensures c.unnamed.ensures
