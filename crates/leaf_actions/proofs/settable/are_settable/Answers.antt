use Rattle.std.proofs.Common.{sym, subst, List}
use Rattle.nk_values.specs.declared.lit.Lit.{Lit}
use Rattle.leaf_actions.specs.Settable.{CopiesCanBeSet}
use Rattle.leaf_actions.proofs.Allowed.{settable_of, of_settable}
use Rattle.leaf_actions.proofs.settable.are_settable.Goals as goal

pub returns : goal.returns
returns c = (
  λ h. settable_of c.args.leaf.now (subst (λ (cs : List (List Lit)). CopiesCanBeSet cs) c.copies.ensures.list (c.copies_can_be_set.ensures.0 h)),
  λ h. c.copies_can_be_set.ensures.1 (subst (λ (cs : List (List Lit)). CopiesCanBeSet cs) (sym c.copies.ensures.list) (of_settable c.args.leaf.now h)),
)
