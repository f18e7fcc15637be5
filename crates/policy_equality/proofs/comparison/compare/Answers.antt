use Rattle.std.proofs.Common.{ℕ, List, sym, subst}
use Rattle.std.proofs.lemmas.Result.{err_from_is_err_and}
use Rattle.nk_values.specs.declared.lit.Lit.{Lit}
use Rattle.nk_values.specs.Members.{IsIn}
use Rattle.nk_syntax.specs.Views.{term_of}
use Rattle.fdd_nodes.specs.Trees.{Tree}
use Rattle.fdd_apart.specs.Aparts.{AreNamesOf}
use Rattle.fdd_apart.specs.declared.finding.Side.TheVariants.{First, Second}
use Rattle.fdd_compile.specs.Meanings.{MeaningOf}
use Rattle.fdd_compile.specs.Named.{Of, TermNames}
use Rattle.fdd_differ.specs.Unnamed.{AreFewNames}
use Rattle.fdd_store.specs.Stores.{tree_at}
use Rattle.fdd_store.proofs.StoreLaws.{gives_grown}
use Rattle.policy_equality.specs.Asked.{Blames}
use Rattle.policy_equality.specs.declared.fault.CompareError.{CompareError}
use Rattle.policy_equality.proofs.CompareLaws.{apart-told, equal-told, first-refused, names-diagram, same-histories, second-refused}
use Rattle.policy_equality.proofs.comparison.compare.Goals as goal

pub apart_in-requires-clause-has_a : goal.apart_in-requires-clause-has_a
apart_in-requires-clause-has_a c = (gives_grown _ _ _ _ c.in_ok-b.ensures.grows c.in_ok-a.ensures.told).has

pub apart_in-requires-clause-few : goal.apart_in-requires-clause-few
apart_in-requires-clause-few c = subst (λ (ls : List Lit). AreFewNames ls) (sym c.as_slice.ensures.keys) c.in_ok-names.ensures.few

pub apart_in-requires-clause-named_a : goal.apart_in-requires-clause-named_a
apart_in-requires-clause-named_a c =
    let first = gives_grown _ _ _ _ c.in_ok-b.ensures.grows c.in_ok-a.ensures.told in
    subst (λ (ls : List Lit). AreNamesOf ls (tree_at c.meaning_of-2.new.store c.in_ok-a.a)) (sym c.as_slice.ensures.keys)
    (names-diagram (term_of c.args.p.now) _ _ first.is c.in_ok-names.ensures.one)

pub apart_in-requires-clause-named_b : goal.apart_in-requires-clause-named_b
apart_in-requires-clause-named_b c =
    subst (λ (ls : List Lit). AreNamesOf ls (tree_at c.meaning_of-2.new.store c.in_ok-b.b)) (sym c.as_slice.ensures.keys)
    (names-diagram (term_of c.args.q.now) _ _ c.in_ok-b.ensures.told.is c.in_ok-names.ensures.other)

pub returns-clause-equal : goal.returns-clause-equal
returns-clause-equal c =
    let first = gives_grown _ _ _ _ c.in_ok-b.ensures.grows c.in_ok-a.ensures.told in
    equal-told (term_of c.args.p.now) (term_of c.args.q.now) _ _ c.in_ok-found.found first.is c.in_ok-b.ensures.told.is c.in_ok-found.ensures.told

pub returns-clause-apart : goal.returns-clause-apart
returns-clause-apart c =
    let first = gives_grown _ _ _ _ c.in_ok-b.ensures.grows c.in_ok-a.ensures.told in
    apart-told (term_of c.args.p.now) (term_of c.args.q.now) _ _ c.in_ok-found.found first.is c.in_ok-b.ensures.told.is c.in_ok-found.ensures.told

pub returns-clause-histories : goal.returns-clause-histories
returns-clause-histories c =
    let first = gives_grown _ _ _ _ c.in_ok-b.ensures.grows c.in_ok-a.ensures.told in
    let equal = equal-told (term_of c.args.p.now) (term_of c.args.q.now) _ _ c.in_ok-found.found first.is c.in_ok-b.ensures.told.is c.in_ok-found.ensures.told in
    λ e. same-histories (term_of c.args.p.now) (term_of c.args.q.now) (equal.0 e)

pub returns-clause-meant : goal.returns-clause-meant
returns-clause-meant c = record {
  one = record { flat = c.in_ok-a.ensures.told.is.flat; shallow = c.in_ok-a.ensures.told.is.built.shallow };
  other = record { flat = c.in_ok-b.ensures.told.is.flat; shallow = c.in_ok-b.ensures.told.is.built.shallow };
}

pub returns-in_err-a-clause-refused : goal.returns-in_err-a-clause-refused
returns-in_err-a-clause-refused c =
    let p = err_from_is_err_and c.from_residual.result c.from_residual.ensures.1 in
    rw p.1 (first-refused (term_of c.args.p.now) (term_of c.args.q.now) p.0 (subst (λ (e : CompareError). Blames First (term_of c.args.p.now) e) (sym p.2) c.in_err-a.ensures.told))

pub returns-in_err-b-clause-refused : goal.returns-in_err-b-clause-refused
returns-in_err-b-clause-refused c =
    let p = err_from_is_err_and c.from_residual-in_err-b.result c.from_residual-in_err-b.ensures.1 in
    rw p.1 (second-refused (term_of c.args.p.now) (term_of c.args.q.now) _ p.0 c.in_ok-a.ensures.told.is (subst (λ (e : CompareError). Blames Second (term_of c.args.q.now) e) (sym p.2) c.in_err-b.ensures.told))
