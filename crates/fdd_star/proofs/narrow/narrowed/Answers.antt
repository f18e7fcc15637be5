use Rattle.fdd_nodes.specs.Names.{IsFew}
use Rattle.fdd_store.specs.Stores.{tree_at}
use Rattle.fdd_store.proofs.StoreLaws.{grows_on, has_grown}
use Rattle.fdd_star.specs.Narrow.{IsNarrowed}
use Rattle.fdd_star.proofs.FoundLaws.{stays, stayed}
use Rattle.fdd_star.proofs.NarrowLaws.{at_itself, narrowed_none}
use Rattle.fdd_star.proofs.StarLaws.{few_within}
use Rattle.fdd_star.proofs.narrow.narrowed.Goals as goal

pub returns-then-many-lt2-clause-body : goal.returns-then-many-lt2-clause-body
returns-then-many-lt2-clause-body c = at_itself _ _ (λ p. IsNarrowed p c.args.scope.now.cell.now) _ (λ p. narrowed_none p _) c.in_ok-many.ensures c.requires.has

pub on_reached-requires : goal.on_reached-requires
on_reached-requires c = record { has = has_grown _ _ _ c.in_ok-many.ensures c.requires.has; few = stays IsFew _ _ _ c.in_ok-many.ensures c.requires.has c.requires.few }

pub returns-in_err-body-clause-grows : goal.returns-in_err-body-clause-grows
returns-in_err-body-clause-grows c = grows_on _ _ _ c.in_ok-many.ensures c.in_err-body.ensures.grows

pub parts-requires-2 : goal.parts-requires-2
parts-requires-2 c = record { has = c.in_ok-body.ensures.body.has; few = few_within _ _ (stays IsFew _ _ _ c.in_ok-many.ensures c.requires.has c.requires.few) c.in_ok-body.ensures.body.is.names }

pub returns-in_err-parts-clause-grows : goal.returns-in_err-parts-clause-grows
returns-in_err-parts-clause-grows c = grows_on _ _ _ (grows_on _ _ _ c.in_ok-many.ensures c.in_ok-body.ensures.grows) c.in_err-parts.ensures

pub returns-then-branch-many : goal.returns-then-branch-many
returns-then-branch-many c =
    let body = stays (IsNarrowed (tree_at c.parts.new.store c.args.scope.now.body) c.args.scope.now.cell.now) _ _ _ c.in_ok-parts.ensures c.in_ok-body.ensures.body.has c.in_ok-body.ensures.body.is in
    record {
      grows = grows_on _ _ _ (grows_on _ _ _ c.in_ok-many.ensures c.in_ok-body.ensures.grows) c.in_ok-parts.ensures;
      body = record { has = has_grown _ _ _ c.in_ok-parts.ensures c.in_ok-body.ensures.body.has; is = stayed (λ x. IsNarrowed x c.args.scope.now.cell.now (tree_at c.parts-2.new.store c.in_ok-body.body)) _ _ _ c.in_ok-many.ensures c.requires.has body };
    }

pub returns-else-branch-many : goal.returns-else-branch-many
returns-else-branch-many c =
    let g = grows_on _ _ _ (grows_on _ _ _ c.in_ok-many.ensures c.in_ok-body.ensures.grows) c.in_ok-parts.ensures in
    record { grows = g; body = at_itself _ _ (λ p. IsNarrowed p c.args.scope.now.cell.now) _ (λ p. narrowed_none p _) g c.requires.has }
