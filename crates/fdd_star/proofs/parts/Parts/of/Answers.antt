use Rattle.std.proofs.Common.{sym, subst}
use Rattle.nk_values.specs.declared.field.Field.TheVariants.{Sw}
use Rattle.fdd_nodes.specs.Names.{IsFew}
use Rattle.fdd_star.specs.Narrow.{IsNarrowed}
use Rattle.fdd_star.specs.Reaches.{StarBut}
use Rattle.fdd_star.proofs.FoundLaws.{stays, stayed, visits_grown}
use Rattle.fdd_star.proofs.SharedLaws.{shared_none}
use Rattle.fdd_star.proofs.StarLaws.{star_as, star_leaf}
use Rattle.fdd_store.specs.Stores.{tree_at}
use Rattle.fdd_store.proofs.StoreLaws.{gives_as, gives_grown, grows_itself, grows_on, has_grown}
use Rattle.fdd_star.proofs.parts.Parts.of.Goals as goal

pub returns-in_err-left-clause-grows : goal.returns-in_err-left-clause-grows
returns-in_err-left-clause-grows c = grows_itself _

pub returns-in_err-leaf-clause-grows : goal.returns-in_err-leaf-clause-grows
returns-in_err-leaf-clause-grows c = grows_itself _

pub narrowed-requires-clause-has : goal.narrowed-requires-clause-has
narrowed-requires-clause-has c = has_grown _ _ _ c.in_ok-all.ensures.grows c.requires.has

pub returns-in_err-body-clause-grows : goal.returns-in_err-body-clause-grows
returns-in_err-body-clause-grows c = grows_on _ _ _ c.in_ok-all.ensures.grows c.in_err-body.ensures.grows

pub narrowed-requires-clause-few : goal.narrowed-requires-clause-few
narrowed-requires-clause-few c = stays IsFew _ _ _ c.in_ok-all.ensures.grows c.requires.has c.requires.few

pub returns-clause-grows : goal.returns-clause-grows
returns-clause-grows c = grows_on _ _ _ c.in_ok-all.ensures.grows c.in_ok-body.ensures.grows

pub returns-clause-found : goal.returns-clause-found
returns-clause-found c = record { visits = visits_grown _ _ _ (grows_on _ _ _ c.in_ok-all.ensures.grows c.in_ok-body.ensures.grows) c.in_ok-copies.ensures.visits }

pub returns-clause-parts : goal.returns-clause-parts
returns-clause-parts c =
    let p = tree_at c.args.store.now c.args.scope.now.body in
    let cell = c.args.scope.now.cell.now in
    let reach = c.in_ok-copies.ensures.reach in
    let left = c.in_ok-left.ensures in
    let leaf = star_as _ p cell _ _ _ (λ m i _. left.has m i) (star_leaf _ _ _ _ _ reach c.in_ok-leaf.ensures) in
    let all = gives_as _ _ _ _ (λ x e. subst (StarBut c.args.scope.now.first.now p cell c.left_of.new.missed.keys) (sym e) leaf) c.in_ok-all.ensures.place in
    record {
      all = gives_grown _ _ _ _ c.in_ok-body.ensures.grows all;
      missed = left.joined;
      asked = λ m k. (reach.is_unset m (left.only m k), reach.tests m (left.only m k));
      body = record { has = c.in_ok-body.ensures.body.has; is = stayed (λ x. IsNarrowed x cell (tree_at c.narrowed.new.store c.in_ok-body.body)) _ _ _ c.in_ok-all.ensures.grows c.requires.has c.in_ok-body.ensures.body.is };
      shared = shared_none _ _ _ _ _ (record { field = Sw; parts = c.new.result }) c.new.ensures.empty;
    }
