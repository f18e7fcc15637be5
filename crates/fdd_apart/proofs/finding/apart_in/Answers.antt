use Rattle.std.proofs.Common.{Option, MatchOption, subst}
use Rattle.fdd_differ.specs.declared.frame.Frame.TheVariants.{NoIp, OtherIp}
use Rattle.fdd_store.specs.Stores.{tree_at}
use Rattle.fdd_store.proofs.ForkLaws.{if_ok}
use Rattle.fdd_store.proofs.StoreLaws.{tree_grown}
use Rattle.fdd_apart.specs.declared.finding.Difference.{Difference}
use Rattle.fdd_apart.specs.Aparts.{AreAlikeBoth, IsApart}
use Rattle.fdd_apart.proofs.ApartLaws.{asked_grown, all_kinds, alike_one}
use Rattle.fdd_apart.proofs.finding.apart_in.Goals as goal

pub apart_in_two_kinds-requires-2 : goal.apart_in_two_kinds-requires-2
apart_in_two_kinds-requires-2 c = asked_grown _ _ _ _ _ c.in_ok-found.ensures.grows (record {
  has_a = c.requires.has_a;
  has_b = c.requires.has_b;
  few = c.requires.few;
  named_a = c.requires.named_a;
  named_b = c.requires.named_b;
})

pub returns-then-are_one-clause-told : goal.returns-then-are_one-clause-told
returns-then-are_one-clause-told c = alike_one _ _ (c.are_one.ensures.0 c.if-are_one.true)

pub returns-clause-told : goal.returns-clause-told
returns-clause-told c =
    let a = tree_at c.args.store.now c.args.a in
    let b = tree_at c.args.store.now c.args.b in
    let one = subst (λ (o : Option Difference). MatchOption o (AreAlikeBoth NoIp OtherIp a b) (IsApart a b)) c.in_default.is c.in_ok-found.ensures.told in
    if_ok c.apart_in_two_kinds-2.result _ _ c.apart_in_two_kinds-2.ensures.told
    (λ o h. all_kinds a b _ _ o (tree_grown _ _ _ c.in_ok-found.ensures.grows c.requires.has_a) (tree_grown _ _ _ c.in_ok-found.ensures.grows c.requires.has_b) one h)
