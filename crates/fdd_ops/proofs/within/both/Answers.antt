use Rattle.fdd_store.proofs.StoreLaws.{gives_grown}
use Rattle.fdd_ops.proofs.within.both.Goals as goal

pub returns-clause-first : goal.returns-clause-first
returns-clause-first c = gives_grown _ _ _ _ c.in_ok-y.ensures.grows c.in_ok-x.ensures.place
