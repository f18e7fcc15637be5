use Rattle.std.proofs.Common.{◌≡◌, List, sym, subst, ◌∙◌, ap}
use Rattle.std.proofs.lemmas.Result.{IfOk-weaker}
use Rattle.nk_values.specs.declared.lit.Lit.{Lit}
use Rattle.fdd_nodes.specs.Copies.{IsCopy, strip}
use Rattle.fdd_nodes.proofs.StripLaws.{strip_copy, strip_disjoint}
use Rattle.fdd_nodes.proofs.assignments.Assignments.stripped.Goals as goal

pub returns-then-is_disjoint_from-clause-stripped : goal.returns-then-is_disjoint_from-clause-stripped
returns-then-is_disjoint_from-clause-stripped c =
    let same = sym (strip_disjoint _ _ (c.is_disjoint_from.ensures.disjoint.0 c.if-is_disjoint_from.true)) in
    IfOk-weaker c.copy.result (λ r. r ≡ c.args.self.now) (λ r. r ≡ strip c.args.cell.now c.args.self.now) (λ r e. e ∙ same) c.copy.ensures

pub new-requires : goal.new-requires
new-requires c =
    subst IsCopy (sym (c.in_ok-kept.ensures ∙ ap (λ (x : List Lit). strip c.args.cell.now x) c.lits.ensures.list)) (strip_copy _ _ 0 c.lits.ensures.copy)
