use Rattle.fdd_nodes.specs.Names.{IsFew}
use Rattle.fdd_store.proofs.StoreLaws.{grows_on, has_grown}
use Rattle.fdd_star.proofs.FoundLaws.{stays}
use Rattle.fdd_star.proofs.narrow.parts.Goals as goal

pub cofactor-requires : goal.cofactor-requires
cofactor-requires c = record { has = has_grown _ _ _ c.loop-l.invariant c.requires.has; few = stays IsFew _ _ _ c.loop-l.invariant c.requires.has c.requires.few }

pub returns-in_err-cofactor : goal.returns-in_err-cofactor
returns-in_err-cofactor c = grows_on _ _ _ c.loop-l.invariant c.in_err-cofactor.ensures.grows

pub loop-l-preserved : goal.loop-l-preserved
loop-l-preserved c = grows_on _ _ _ c.loop-l.invariant c.in_ok-cofactor.ensures.grows

pub returns : goal.returns
returns c = c.loop-l.invariant
