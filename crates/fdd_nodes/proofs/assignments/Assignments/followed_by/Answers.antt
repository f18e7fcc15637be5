use Rattle.std.proofs.Common.{List, sym, subst, ◌∙◌, ap, ◌++◌}
use Rattle.nk_values.specs.declared.lit.Lit.{Lit}
use Rattle.fdd_nodes.specs.Copies.{IsCopy, after}
use Rattle.fdd_nodes.proofs.AfterLaws.{after_copy}
use Rattle.fdd_nodes.proofs.assignments.Assignments.followed_by.Goals as goal

pub new-requires : goal.new-requires
new-requires c =
    subst IsCopy (sym (c.in_ok-push_after.ensures ∙ ap (λ (x : List Lit). x ++ after c.lits-lits.result.now c.lits-more.result.now) c.new-both.ensures.items ∙ ap (λ (x : List Lit). after x c.lits-more.result.now) c.lits-lits.ensures.list))
    (after_copy c.args.self.now c.lits-more.result.now c.lits-lits.ensures.copy)
