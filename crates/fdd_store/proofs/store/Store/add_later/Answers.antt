use Rattle.fdd_store.proofs.ForkLaws.{if_ok}
use Rattle.fdd_store.proofs.StoreLaws.{gives_as}
use Rattle.fdd_store.proofs.JoinLaws.{joined_front}
use Rattle.fdd_store.proofs.store.Store.add_later.Goals as goal

pub returns-clause-place : goal.returns-clause-place
returns-clause-place c =
    if_ok c.unite.result _ _ c.unite.ensures.place (λ r g. gives_as _ r _ _ (λ x w.
    joined_front _ _ _ c.args.l _ _ _ _ x c.requires.has_a c.requires.has_b c.in_ok-none.ensures.grows c.in_ok-none.ensures.place c.in_ok-front.ensures.grows c.in_ok-front.ensures.place w) g)
