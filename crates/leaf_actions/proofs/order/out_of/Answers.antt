use Rattle.std.proofs.Common.{sym, ◌∙◌}
use Rattle.leaf_actions.proofs.Assigned.{out_assigned, out_own}
use Rattle.leaf_actions.proofs.order.out_of.Goals as goal

pub returns-in-Some : goal.returns-in-Some
returns-in-Some c = out_assigned c.args.view.now c.args.copy.now c.in-Some.n c.get.ensures.copy (sym c.get.ensures.value ∙ c.in-Some.is)

pub returns-in-None : goal.returns-in-None
returns-in-None c = c.from.ensures ∙ out_own c.args.view.now c.args.copy.now (sym c.get.ensures.value ∙ c.in-None.is)
