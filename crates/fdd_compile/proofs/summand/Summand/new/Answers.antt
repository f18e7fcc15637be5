use Rattle.std.proofs.Common.{List, [], ◌∷◌, length, ap, sym, ◌∙◌, subst}
use Rattle.std.specs.List.Sorted.{IsPermutation}
use Rattle.nk_values.specs.declared.lit.Lit.{Lit}
use Rattle.fdd_store.specs.Stores.{tree_at}
use Rattle.fdd_compile.specs.Sums.{AreAlike, if_all}
use Rattle.fdd_compile.proofs.AlikeLaws.{alike_itself}
use Rattle.fdd_compile.proofs.SummandLaws.{front_taken, refilled, tests_sorted}
use Rattle.fdd_compile.proofs.summand.Summand.new.Goals as goal

pub loop-front-init : goal.loop-front-init
loop-front-init c = (c.requires.has, alike_itself _)

pub front_of-requires-clause-has : goal.front_of-requires-clause-has
front_of-requires-clause-has c = c.loop-front.invariant.0

pub loop-front-smaller : goal.loop-front-smaller
loop-front-smaller c = c.in-Some.ensures.lower

pub loop-front-preserved : goal.loop-front-preserved
loop-front-preserved c = (c.in-Some.ensures.has, front_taken c.loop-front.all.tests.items _ c.in-Some.front.test _ _ _ c.in_ok-push.ensures.ok c.in-Some.ensures.alike c.loop-front.invariant.1)

pub returns-clause-has : goal.returns-clause-has
returns-clause-has c = c.loop-front.invariant.0

pub returns-clause-alike : goal.returns-clause-alike
returns-clause-alike c =
    let at = c.as_mut_slice.ensures.value in
    let n = c.sort_unstable_by_key.ensures.len in
    let same = refilled c.loop-front.all.tests.items c.sort_unstable_by_key.new.self (n ∙ ap length at) in
    subst (λ (ls : List Lit). AreAlike (if_all ls (tree_at c.args.store.now c.loop-front.all.below) ∷ []) (if_all c.args.tests.items (tree_at c.args.store.now c.args.below) ∷ [])) (sym same)
    (tests_sorted c.loop-front.all.tests.items _ _ _ (subst (λ (ls : List Lit). IsPermutation ls c.sort_unstable_by_key.new.self) at c.sort_unstable_by_key.ensures.permutation) c.loop-front.invariant.1)
