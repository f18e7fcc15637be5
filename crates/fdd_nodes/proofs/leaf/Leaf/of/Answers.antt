use Rattle.std.proofs.Common.{List, [], ◌∷◌, ◌++◌, sym, subst, ◌∙◌, ap}
use Rattle.std.specs.List.Sorted.{IsStrictlySortedBy}
use Rattle.nk_values.specs.declared.lit.Lit.{Lit}
use Rattle.fdd_nodes.specs.Copies.{copy_cmp}
use Rattle.fdd_nodes.proofs.OrderLaws.{rising_one}
use Rattle.fdd_nodes.proofs.leaf.Leaf.of.Goals as goal

pub invariant_of-result : goal.invariant_of-result
invariant_of-result c =
    subst (IsStrictlySortedBy copy_cmp) (sym (c.in_ok-push.ensures.items ∙ ap (λ (x : List (List Lit)). x ++ c.args.copy ∷ []) c.new-copies.ensures.items)) (rising_one c.args.copy)
