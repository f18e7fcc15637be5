use Rattle.std.proofs.Common.{sym, subst}
use Rattle.fdd_nodes.proofs.MakesLaws.{if_ok}
use Rattle.fdd_store.specs.Stores.{IsStore}
use Rattle.fdd_store.proofs.StoreLaws.{taken, undo_grows, undo_gives}
use Rattle.fdd_store.proofs.OperationLaws.{join_of}
use Rattle.fdd_store.proofs.store.Store.join.Goals as goal

pub or_undo-requires : goal.or_undo-requires
or_undo-requires c = subst (λ k. IsStore k) (sym (taken _ _ _ _ c.add-outcome.ensures.grows c.size-size.ensures.shapes c.size-size.ensures.known)) c.size-size.ensures.right

pub returns-clause-grows : goal.returns-clause-grows
returns-clause-grows c = undo_grows _ _ _ _ _ _ c.add-outcome.ensures.grows c.size-size.ensures.shapes c.size-size.ensures.known c.or_undo.ensures.ok c.or_undo.ensures.shapes c.or_undo.ensures.known

pub returns-clause-place : goal.returns-clause-place
returns-clause-place c = undo_gives _ _ _ _ _ c.or_undo.ensures.same c.or_undo.ensures.ok (if_ok c.add-outcome.result _ _ c.add-outcome.ensures.place (λ i g. join_of _ _ _ _ _ c.requires.few g))
