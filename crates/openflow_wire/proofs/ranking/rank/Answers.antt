use Rattle.std.proofs.Common.{rules}
use Rattle.std.specs.Cmp.Lexicographic.{nat_list_cmp_total}
use Rattle.std.specs.Ordering.{is_lt}
use Rattle.std.proofs.lemmas.List.Sorted.{answers_always, ranks_by, sorted_far}
use Rattle.nk_values.specs.declared.row.Row.{Row}
use Rattle.openflow_wire.specs.KeyOrder.{key_cmp, key_numbers}
use Rattle.openflow_wire.proofs.RankLaws.{far-up, ranked-rising}
use Rattle.openflow_wire.proofs.ranking.rank.Goals as goal

pub returns-clause-up : goal.returns-clause-up
returns-clause-up c =
    let weak = ranks_by nat_list_cmp_total key_numbers in
    let up = c.in_ok-sort_by.ensures.sorted (λ (x y : Row). is_lt (key_cmp x y)) weak (answers_always _ _ _ (λ f a r g h. search rules)) in
    far-up _ (λ i j d le lt. sorted_far (λ (x y : Row). is_lt (key_cmp x y)) weak _ up i j d le lt)

pub returns-clause-rising : goal.returns-clause-rising
returns-clause-rising c = λ distinct.
    let weak = ranks_by nat_list_cmp_total key_numbers in
    let up = c.in_ok-sort_by.ensures.sorted (λ (x y : Row). is_lt (key_cmp x y)) weak (answers_always _ _ _ (λ f a r g h. search rules)) in
    ranked-rising _ _ distinct c.in_ok-sort_by.ensures.permutation (far-up _ (λ i j d le lt. sorted_far (λ (x y : Row). is_lt (key_cmp x y)) weak _ up i j d le lt))
