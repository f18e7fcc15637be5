use Rattle.std.proofs.Common.{◌≡◌, ◌+◌, ◌<◌, List, String, length, map, drop, ◌∙◌, ap, subst, arith, string_bytes}
use Rattle.std.proofs.lemmas.List.{drop_all, get_or-set_same}
use Rattle.std.specs.declared.alloc.Global.{Global}
use Rattle.report_text.specs.Reports.{HasFate, IsArrivalText}
use Rattle.value_text.specs.Traces.{AddsText}
use Rattle.report_text.proofs.CopyLaws.{all_copies, arrival_is, at_place, next_copies}
use Rattle.value_text.proofs.TextLaws.{drop_next, no_text, next_text, last_text, of_kind}
use Rattle.report_text.proofs.reports.put_arrivals.Goals as goal

pub loop-before-init : goal.loop-before-init
loop-before-init c = record {
  count = c.in_ok-copies.ensures.count;
  left = all_copies c.args.flights.now c.in_ok-copies.copies.items c.in_ok-copies.ensures.lines;
  front = no_text (IsArrivalText c.args.flights.now) c.args.arrivals.now (string_bytes c.args.out.now);
}

pub loop-before-preserved : goal.loop-before-preserved
loop-before-preserved c =
    let flights = c.args.flights.now in
    let arrivals = c.args.arrivals.now in
    let k = c.loop-before.before in
    let a = c.index-arrivals-before.result in
    let lists = c.loop-before.copies in
    let old = c.index_mut.result.now in
    let lines = c.sort_lines.new.lines in
    let now = string_bytes c.loop-before.out in
    let new = string_bytes c.put_arrival.new.out in
    let within : k < length lists.items = omega (arith, c.loop-before-test.true, c.loop-before.invariant.count, lists.ok.0) in
    let at = at_place lists.items k old within c.index_mut.ensures.value in
    let put : c.deref.result.now ≡ lines.items = c.deref.ensures.value ∙ ap (λ v. v.items) (c.index.ensures ∙ get_or-set_same lists.items k lines c.index.result.now within) in
    let fate = subst (λ (ls : List (String Global)). AddsText (HasFate (map string_bytes ls) (k + 1) a) now new) put c.in_ok-put_arrival.ensures in
    let is = arrival_is flights k a lists.items old (map string_bytes lines.items) in
    let more = of_kind (HasFate (map string_bytes lines.items) (k + 1) a) (IsArrivalText flights (k + 1) a) now new
    (λ t. is t c.loop-before.invariant.left at c.in_ok-sort_lines.ensures.order c.in_ok-sort_lines.ensures.members) fate in
    record {
      count = c.loop-before.invariant.count;
      left = next_copies flights k lists.items lines c.loop-before.invariant.left;
      front = next_text (IsArrivalText flights) arrivals (drop k arrivals) (drop (k + 1) arrivals) k a (string_bytes c.args.out.now) now new
          (drop_next arrivals k a c.loop-before-test.true c.index-arrivals-before.is) c.loop-before.invariant.front more;
    }

pub returns : goal.returns
returns c =
    let arrivals = c.args.arrivals.now in
    let k = c.loop-before.before in
    last_text (IsArrivalText c.args.flights.now) arrivals (drop k arrivals) k _ _ (drop_all k arrivals c.loop-before-test.false) c.loop-before.invariant.front
