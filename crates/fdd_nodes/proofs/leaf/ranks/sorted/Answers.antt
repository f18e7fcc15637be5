use Rattle.std.proofs.Common.{subst, List, map}
use Rattle.std.specs.List.Sorted.{IsPermutation}
use Rattle.std.proofs.lemmas.List.Sorted.{IsPermutation-map}
use Rattle.nk_values.specs.declared.lit.Lit.{Lit}
use Rattle.fdd_nodes.specs.Ranks.{copy_of}
use Rattle.fdd_nodes.proofs.GatherLaws.{if_ok, same_as, same_itself, same_sorted}
use Rattle.fdd_nodes.proofs.leaf.ranks.sorted.Goals as goal

pub returns-then-len-lt-FEW : goal.returns-then-len-lt-FEW
returns-then-len-lt-FEW c = same_sorted _ _ _ c.sort_unstable.ensures.permutation (same_itself _)

pub returns : goal.returns
returns c =
    let mapped = IsPermutation-map copy_of _ _ c.sort_unstable_by_key.ensures.permutation in
    if_ok _ _ c.without_ranks.result (λ r e. same_sorted _ _ _ (subst (λ (xs : List (List Lit)). IsPermutation xs (map copy_of c.sort_unstable_by_key.new.self.items)) c.in_ok-all.ensures mapped) (same_as _ _ e)) c.without_ranks.ensures
