use Rattle.std.proofs.Common.{◌<◌, ◌≤◌, ◌≡◌, List, length, get_or, refl, subst}
use Rattle.nk_syntax.specs.declared.pol.Pol.{Pol}
use Rattle.document_text.specs.Answers.{doc_of}
use Rattle.workload_gen.proofs.Readying.{all-versions, is-workload, so-far-next, versions-start}
use Rattle.workload_gen.proofs.compiling.versions.Goals as goal

pub version_of-requires-clause-policy : goal.version_of-requires-clause-policy
version_of-requires-clause-policy c =
    let items = c.args.document.now.policies.items in
    let within : c.loop-place.place < length items = subst (λ (xs : List Pol). c.loop-place.place < length xs) c.deref-pol-items.ensures.value c.loop-place-test.true in
    let is : c.pol-item.result ≡ get_or items c.loop-place.place c.pol-item.result = subst (λ (xs : List Pol). c.pol-item.result ≡ get_or xs c.loop-place.place c.pol-item.result) c.deref-pol-items.ensures.value c.pol-item.is in
    is-workload c.requires.0 (doc_of c.args.document.now) c.requires.1 items refl c.loop-place.place c.pol-item.result within is

pub loop-place-preserved : goal.loop-place-preserved
loop-place-preserved c =
    let items = c.args.document.now.policies.items in
    let within : c.loop-place.place < length items = subst (λ (xs : List Pol). c.loop-place.place < length xs) c.deref-pol-items.ensures.value c.loop-place-test.true in
    let is : c.pol-item.result ≡ get_or items c.loop-place.place c.pol-item.result = subst (λ (xs : List Pol). c.pol-item.result ≡ get_or xs c.loop-place.place c.pol-item.result) c.deref-pol-items.ensures.value c.pol-item.is in
    so-far-next c.args.document.now.topology c.args.document.now.settings.stamps.0 c.args.document.now.settings.stamps.1 items c.loop-place.place c.loop-place.versions.items c.push.new.self.items c.pol-item.result c.in_ok-version.version
    c.stamp_of-stamp.result c.band_of.result within is c.stamp_of-stamp.ensures.stamp c.band_of.ensures c.in_ok-push.ensures.items c.in_ok-version.ensures.policy c.in_ok-version.ensures.version c.loop-place.invariant

pub returns-clause-versions : goal.returns-clause-versions
returns-clause-versions c =
    let items = c.args.document.now.policies.items in
    let over : length items ≤ c.loop-place.place = subst (λ (xs : List Pol). length xs ≤ c.loop-place.place) c.deref-pol-items.ensures.value c.loop-place-test.false in
    all-versions (doc_of c.args.document.now) c.args.document.now.settings.stamps.0 c.args.document.now.settings.stamps.1 items c.loop-place.place c.loop-place.versions.items refl refl refl over c.loop-place.invariant

pub returns-clause-start : goal.returns-clause-start
returns-clause-start c =
    let items = c.args.document.now.policies.items in
    let over : length items ≤ c.loop-place.place = subst (λ (xs : List Pol). length xs ≤ c.loop-place.place) c.deref-pol-items.ensures.value c.loop-place-test.false in
    versions-start c.requires.0 (doc_of c.args.document.now) c.loop-place.versions.items c.requires.1
    (all-versions (doc_of c.args.document.now) c.args.document.now.settings.stamps.0 c.args.document.now.settings.stamps.1 items c.loop-place.place c.loop-place.versions.items refl refl refl over c.loop-place.invariant)
