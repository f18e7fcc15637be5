use Rattle.std.proofs.Common.{List, get_or, sym, subst}
use Rattle.std.specs.List.Sorted.{IsPermutation}
use Rattle.nk_values.specs.declared.row.Row.{Row}
use Rattle.flow_audit.specs.Reports.{all_rows}
use Rattle.openflow_wire.specs.KeyOrder.{IsRising, IsRepeated}
use Rattle.flow_audit.specs.Verdicts.{AreCompared}
use Rattle.openflow_wire.proofs.RankLaws.{repeated-moves, ranked-distinct}
use Rattle.flow_audit.proofs.CompareLaws.{audited}
use Rattle.flow_audit.proofs.auditing.audit.Goals as goal

pub returns-in-Some-clause-refused : goal.returns-in-Some-clause-refused
returns-in-Some-clause-refused c =
    let ranked = c.rank.new.rows.items in
    let moved = subst (λ (xs : List Row). IsPermutation xs ranked) c.in_ok-rows.ensures c.in_ok-rank.ensures.moved in
    let row = c.swap_remove-row.result in
    let there = subst (λ (ys : List Row). IsRepeated ys (get_or ys c.in-Some.place row)) c.deref.ensures.value (c.in-Some.ensures.1 row) in
    let again = subst (λ (z : Row). IsRepeated ranked z) (sym c.swap_remove-row.ensures.value) there in
    (c.are_reports.ensures.0 c.if-not-are_reports.false, c.are_whole.ensures.0 c.if-not-are_whole.false, repeated-moves (all_rows c.args.messages.now) ranked row moved again)

pub returns-clause-verdict : goal.returns-clause-verdict
returns-clause-verdict c =
    let rows = c.rank.new.rows.items in
    let plan = c.rank-2.new.rows.items in
    let moved_rows = subst (λ (xs : List Row). IsPermutation xs rows) c.in_ok-rows.ensures c.in_ok-rank.ensures.moved in
    let moved_plan = subst (λ (xs : List Row). IsPermutation xs plan) c.in_ok-plan.ensures c.in_ok-rank-2.ensures.moved in
    let rising = subst IsRising c.deref.ensures.value c.in_default.ensures in
    let first = subst (λ (xs : List Row). AreCompared xs c.deref-3.result.now c.in_ok-compared.field-0) c.deref-2.ensures.value c.in_ok-compared.ensures in
    let both = subst (λ (ys : List Row). AreCompared plan ys c.in_ok-compared.field-0) c.deref-3.ensures.value first in
    audited c.args.planned.now plan (all_rows c.args.messages.now) rows c.in_ok-compared.field-0 c.requires moved_plan c.in_ok-rank-2.ensures.up moved_rows rising both

pub returns-clause-reported : goal.returns-clause-reported
returns-clause-reported c =
    let rows = c.rank.new.rows.items in
    let moved = subst (λ (xs : List Row). IsPermutation xs rows) c.in_ok-rows.ensures c.in_ok-rank.ensures.moved in
    record {
      reports = c.are_reports.ensures.0 c.if-not-are_reports.false;
      whole = c.are_whole.ensures.0 c.if-not-are_whole.false;
      distinct = ranked-distinct (all_rows c.args.messages.now) rows moved (subst IsRising c.deref.ensures.value c.in_default.ensures);
    }
