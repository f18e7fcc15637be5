use Rattle.std.proofs.Common.{◌+◌, ◌≡◌, List, [], ◌∷◌, ◌++◌, length, take, map, sym, ap, ◌∙◌, subst, arith}
use Rattle.std.proofs.lemmas.Iterator.Adapters.{YieldsList-from_vec}
use Rattle.std.proofs.lemmas.Iterator.Consumers.{YieldsList-turn}
use Rattle.std.proofs.lemmas.List.{length_push}
use Rattle.nk_syntax.specs.Terms.{Term}
use Rattle.nk_syntax.specs.Views.{term_of}
use Rattle.fdd_compile.specs.Named.{AreFewNamed, TermNames}
use Rattle.policy_rows.specs.declared.version.Version.{Version}
use Rattle.program_answer.specs.Versions.{IsVersion, AreVersions}
use Rattle.program_answer.specs.Input.{TellsFault}
use Rattle.program_answer.proofs.Lists.{at_place, term_at, versions_step, first_told}
use Rattle.program_answer.proofs.versions.versions.Goals as goal

pub version-requires-clause-few : goal.version-requires-clause-few
version-requires-clause-few c =
    let whole = c.into_iter-pol-iterator.ensures.into_iter_gives in
    let items = c.args.policies.items in
    let turn = YieldsList-turn (YieldsList-from_vec items whole.0 (whole.1 ∙ c.args.policies.ok.0)) c.loop-pol.yielded c.loop-pol.pol-iterator c.loop-pol.yielded_by c.next.result c.next.new.self c.in-Some.pol c.in-Some.is c.next.ensures.steps in
    let at = term_at items (length c.loop-pol.yielded) c.in-Some.pol turn.0 turn.1 in
    subst (λ (p : Term). AreFewNamed (TermNames p)) (sym at.0) (c.requires.few _ (at_place (map term_of items) (length c.loop-pol.yielded) (term_of c.in-Some.pol) at.1))

pub returns-in-Err-clause-fault : goal.returns-in-Err-clause-fault
returns-in-Err-clause-fault c =
    let whole = c.into_iter-pol-iterator.ensures.into_iter_gives in
    let items = c.args.policies.items in
    let n = length c.loop-pol.yielded in
    let turn = YieldsList-turn (YieldsList-from_vec items whole.0 (whole.1 ∙ c.args.policies.ok.0)) c.loop-pol.yielded c.loop-pol.pol-iterator c.loop-pol.yielded_by c.next.result c.next.new.self c.in-Some.pol c.in-Some.is c.next.ensures.steps in
    let at = term_at items n c.in-Some.pol turn.0 turn.1 in
    let place : c.len-place.result ≡ n = omega (arith, c.len-place.ensures, c.loop-pol.versions.ok.0, c.loop-pol.invariant.count) in
    let told = subst (λ k. TellsFault c.args.topology.now c.args.settings k (term_of c.in-Some.pol) c.in-Err.error) place c.in-Err.ensures.fault in
    first_told c.args.topology.now c.args.settings (map term_of items) n (term_of c.in-Some.pol) c.loop-pol.versions.items c.in-Err.error at.1 at.0 c.loop-pol.invariant.made told

pub loop-pol-preserved : goal.loop-pol-preserved
loop-pol-preserved c =
    let whole = c.into_iter-pol-iterator.ensures.into_iter_gives in
    let items = c.args.policies.items in
    let n = length c.loop-pol.yielded in
    let turn = YieldsList-turn (YieldsList-from_vec items whole.0 (whole.1 ∙ c.args.policies.ok.0)) c.loop-pol.yielded c.loop-pol.pol-iterator c.loop-pol.yielded_by c.next.result c.next.new.self c.in-Some.pol c.in-Some.is c.next.ensures.steps in
    let at = term_at items n c.in-Some.pol turn.0 turn.1 in
    let place : c.len-place.result ≡ n = omega (arith, c.len-place.ensures, c.loop-pol.versions.ok.0, c.loop-pol.invariant.count) in
    let made = subst (λ k. IsVersion c.args.topology.now c.args.settings k (term_of c.in-Some.pol) c.in-Ok.version) place c.in-Ok.ensures.version in
    let all = versions_step c.args.topology.now c.args.settings (map term_of items) n c.loop-pol.versions.items (term_of c.in-Some.pol) c.in-Ok.version at.1 at.0 c.loop-pol.invariant.made made in
    let more : length (c.loop-pol.yielded ++ c.in-Some.pol ∷ []) ≡ n + 1 = length_push c.loop-pol.yielded c.in-Some.pol in
    record {
      made = subst (λ (vs : List Version). AreVersions c.args.topology.now c.args.settings 0 (take (length (c.loop-pol.yielded ++ c.in-Some.pol ∷ [])) (map term_of items)) vs) (sym c.in_ok-push-in-Ok.ensures.items)
          (subst (λ k. AreVersions c.args.topology.now c.args.settings 0 (take k (map term_of items)) (c.loop-pol.versions.items ++ c.in-Ok.version ∷ [])) (sym more) all);
      count = ap length c.in_ok-push-in-Ok.ensures.items ∙ length_push c.loop-pol.versions.items c.in-Ok.version ∙ omega (arith, c.loop-pol.invariant.count, more);
    }
