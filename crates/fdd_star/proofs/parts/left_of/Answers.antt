use Rattle.std.proofs.Common.{sym, ◌∙◌}
use Rattle.fdd_star.proofs.SharedLaws.{lists_new, lists_old}
use Rattle.fdd_star.proofs.parts.left_of.Goals as goal

pub loop-l-preserved-in-Continue-branch-2 : goal.loop-l-preserved-in-Continue-branch-2
loop-l-preserved-in-Continue-branch-2 c = lists_new _ _ _ _ _ _ _ c.in-Some.l c.in-Some.ensures.removal c.in_ok-insert.ensures.keys c.loop-l.invariant _ (sym c.if-branch.true ∙ c.in_ok-insert.ensures.added) c.in_ok-push.ensures.items

pub loop-l-preserved : goal.loop-l-preserved
loop-l-preserved c = lists_old _ _ _ _ _ _ _ c.in-Some.l c.in-Some.ensures.removal c.in_ok-insert.ensures.keys c.loop-l.invariant (sym c.if-branch.false ∙ c.in_ok-insert.ensures.added)
