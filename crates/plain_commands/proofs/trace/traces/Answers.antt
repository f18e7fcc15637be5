use Rattle.std.proofs.Common.{[], ◌+◌, ◌<◌, ◌≤◌, length, get_or, drop, sym, subst, string_bytes, arith}
use Rattle.std.proofs.lemmas.List.{drop_all, drop_more}
use Rattle.document_text.specs.Terms.{Dup}
use Rattle.document_text.specs.Answers.{doc_of}
use Rattle.policy_rows.specs.declared.version.Version.{Version}
use Rattle.policy_rows.specs.Means.{RowsMean}
use Rattle.program_answer.specs.Input.{policies_of}
use Rattle.program_answer.proofs.Lists.{same_count, version_at}
use Rattle.report_text.specs.Traces.{AddsText, AreTexts}
use Rattle.value_text.proofs.TextLaws.{IsFront, no_text, next_text, last_text, whole_text}
use Rattle.plain_commands.specs.Trace.{IsTracedPolicyText}
use Rattle.plain_commands.proofs.trace.traces.Goals as goal

pub loop-before-init : goal.loop-before-init
loop-before-init c =
    let d = c.args.document.now in
    subst (λ text. AddsText (IsFront (IsTracedPolicyText (doc_of d)) (policies_of d) (policies_of d) 0) [] text) (sym c.new-out.ensures.bytes)
    (no_text (IsTracedPolicyText (doc_of d)) (policies_of d) [])

pub put_policy-requires-clause-means : goal.put_policy-requires-clause-means
put_policy-requires-clause-means c =
    let d = c.args.document.now in
    let i = c.loop-before.before in (
      get_or (policies_of d) i Dup,
      subst (λ (v : Version). RowsMean v.rows (get_or (policies_of d) i Dup) d.topology) (sym c.index-versions-before.is)
          (version_at d.topology d.settings 0 (policies_of d) c.args.versions.now i Dup c.index-versions-before.result c.requires.versions c.loop-before-test.true).means,
    )

pub loop-before-preserved : goal.loop-before-preserved
loop-before-preserved c =
    let d = c.args.document.now in
    let ps = policies_of d in
    let i = c.loop-before.before in
    let p = get_or ps i Dup in
    let means =
    subst (λ (v : Version). RowsMean v.rows p d.topology) (sym c.index-versions-before.is)
    (version_at d.topology d.settings 0 ps c.args.versions.now i Dup c.index-versions-before.result c.requires.versions c.loop-before-test.true).means
    in
    let counts = same_count d.topology d.settings 0 ps c.args.versions.now c.requires.versions in
    let within : i < length ps = omega (arith, counts, c.loop-before-test.true) in
    next_text (IsTracedPolicyText (doc_of d)) ps (drop i ps) (drop (i + 1) ps) i p _ _ _ (drop_more ps i Dup within) c.loop-before.invariant (c.in_ok-put_policy.ensures p means)

pub returns : goal.returns
returns c =
    let d = c.args.document.now in
    let ps = policies_of d in
    let i = c.loop-before.before in
    let counts = same_count d.topology d.settings 0 ps c.args.versions.now c.requires.versions in
    let over : length ps ≤ i = omega (arith, counts, c.loop-before-test.false) in
    whole_text (AreTexts (IsTracedPolicyText (doc_of d)) 0 ps) (string_bytes c.loop-before.out)
    (last_text (IsTracedPolicyText (doc_of d)) ps (drop i ps) i _ _ (drop_all i ps over) c.loop-before.invariant)
