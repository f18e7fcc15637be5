use Rattle.std.proofs.Common.{Option, MatchOption, subst}
use Rattle.fdd_store.specs.Stores.{tree_at}
use Rattle.fdd_store.proofs.ForkLaws.{if_ok}
use Rattle.fdd_store.proofs.StoreLaws.{tree_grown}
use Rattle.fdd_apart.specs.declared.finding.Difference.{Difference}
use Rattle.fdd_apart.specs.Aparts.{AreAlikeOf, IsApart}
use Rattle.fdd_apart.proofs.ApartLaws.{asked_grown, both_kinds}
use Rattle.fdd_apart.proofs.finding.apart_in_two_kinds.Goals as goal

pub apart_in_kind-requires-2 : goal.apart_in_kind-requires-2
apart_in_kind-requires-2 c = asked_grown _ _ _ _ _ c.in_ok-found.ensures.grows c.requires

pub returns-clause-told : goal.returns-clause-told
returns-clause-told c =
    let a = tree_at c.args.store.now c.args.compared.now.a in
    let b = tree_at c.args.store.now c.args.compared.now.b in
    let one = subst (λ (o : Option Difference). MatchOption o (AreAlikeOf c.args.first a b) (IsApart a b)) c.in_default.is c.in_ok-found.ensures.told in
    if_ok c.apart_in_kind-2.result _ _ c.apart_in_kind-2.ensures.told
    (λ o h. both_kinds c.args.first c.args.second a b _ _ o (tree_grown _ _ _ c.in_ok-found.ensures.grows c.requires.has_a) (tree_grown _ _ _ c.in_ok-found.ensures.grows c.requires.has_b) one h)
