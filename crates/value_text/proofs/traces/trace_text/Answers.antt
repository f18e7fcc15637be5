use Rattle.std.proofs.Common.{◌+◌, List, Vec, map, drop, sym, ap, subst, string_bytes}
use Rattle.std.proofs.lemmas.List.{drop_all}
use Rattle.std.specs.declared.alloc.Global.{Global}
use Rattle.packet_tracer.specs.declared.flight.Walk.{Walk}
use Rattle.value_text.specs.Traces.{AddsText, IsPolicyText, IsTraceText}
use Rattle.value_text.proofs.TextLaws.{drop_next, next_text, last_text, whole_text}
use Rattle.value_text.proofs.traces.trace_text.Goals as goal

abbrev walks_of : List (Vec Walk Global) → List (List Walk)
walks_of vs = map (λ v. v.items) vs

pub loop-before-preserved : goal.loop-before-preserved
loop-before-preserved c =
    let walks = c.args.walks.now in
    let k = c.loop-before.before in
    let more = subst (λ (ws : List Walk). AddsText (IsPolicyText (k + 1) ws) (string_bytes c.loop-before.out) (string_bytes c.put_policy.new.out)) c.deref.ensures.value c.in_ok-put_policy.ensures in
    next_text IsPolicyText (walks_of walks) (walks_of (drop k walks)) (walks_of (drop (k + 1) walks)) k c.index-walks-before.result.items _ _ _
    (ap walks_of (drop_next walks k c.index-walks-before.result c.loop-before-test.true c.index-walks-before.is)) c.loop-before.invariant more

pub returns : goal.returns
returns c =
    let walks = c.args.walks.now in
    let k = c.loop-before.before in
    subst (IsTraceText (walks_of walks)) (sym c.new.ensures)
    (whole_text (IsTraceText (walks_of walks)) (string_bytes c.loop-before.out)
    (last_text IsPolicyText (walks_of walks) (walks_of (drop k walks)) k _ _ (ap walks_of (drop_all k walks c.loop-before-test.false)) c.loop-before.invariant))
