use Rattle.fdd_store.proofs.ForkLaws.{if_ok}
use Rattle.fdd_store.proofs.StoreLaws.{gives_as, gives_grown}
use Rattle.fdd_store.proofs.JoinLaws.{added, added_yes}
use Rattle.fdd_store.proofs.store.Store.add_here.Goals as goal

pub part-requires-2 : goal.part-requires-2
part-requires-2 c = gives_grown _ _ _ _ c.in_ok-x.ensures.grows c.requires.y

pub rest-no-requires : goal.rest-no-requires
rest-no-requires c = gives_grown _ _ _ _ c.in_ok-yes.ensures.grows (gives_grown _ _ _ _ c.in_ok-y.ensures.grows (gives_grown _ _ _ _ c.in_ok-x.ensures.grows c.requires.y))

pub fork-requires-clause-yes : goal.fork-requires-clause-yes
fork-requires-clause-yes c =
    added_yes _ _ _ _ c.args.l _ _ _ _ _ _ c.requires.y.has c.in_ok-x.ensures.grows c.in_ok-x.ensures.place c.in_ok-y.ensures.grows c.in_ok-y.ensures.place c.in_ok-yes.ensures.grows c.in_ok-yes.ensures.place c.rest-no.ensures

pub returns-clause-place : goal.returns-clause-place
returns-clause-place c =
    if_ok c.fork.result _ _ c.fork.ensures.place (λ r g. gives_as _ r _ _ (λ x w.
    added _ _ _ _ c.args.l _ _ _ _ _ _ c.requires.y.has c.in_ok-x.ensures.grows c.in_ok-x.ensures.place c.in_ok-y.ensures.grows c.in_ok-y.ensures.place c.in_ok-yes.ensures.grows c.in_ok-yes.ensures.place c.rest-no.ensures x w) g)
