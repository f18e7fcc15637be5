use Rattle.fdd_store.proofs.ForkLaws.{if_ok}
use Rattle.fdd_store.proofs.StoreLaws.{gives_as}
use Rattle.fdd_compile.proofs.SumLaws.{leaves_union}
use Rattle.fdd_compile.proofs.plain.plain_sum.Goals as goal

pub returns-then-are_leaves-clause-place : goal.returns-then-are_leaves-clause-place
returns-then-are_leaves-clause-place c =
    if_ok c.union_of_leaves.result _ _ c.union_of_leaves.ensures.place (λ r g. gives_as _ r _ _ (λ x w. leaves_union _ x w) g)
