use Rattle.std.proofs.Common.{rules, ◌≡◌, ◌≤◌, ◌<◌, ◌^◌, List, sym, subst}
use Rattle.std.specs.List.{AllByRecursion}
use Rattle.nk_values.specs.declared.row.Row.{Row}
use Rattle.nk_values.specs.Fitting.{actions_len}
use Rattle.openflow_wire.specs.declared.message.Message.{Message}
use Rattle.openflow_wire.specs.Writing.{wire_len}
use Rattle.audit_cases.proofs.Sizes.{each-of, replies-short}
use Rattle.audit_cases.proofs.tables.table_answer.Goals as goal

abbrev AreShort : List Row → Type 0
AreShort rows = AllByRecursion (λ (r : Row). actions_len r.actions ≤ 60000) rows

pub stats-requires-clause-few : goal.stats-requires-clause-few
stats-requires-clause-few c =
    let short : AreShort c.rows.result.now = search rules in
    let same : c.rows.result.now ≡ c.loop-port.switch.table.rows = search rules in
    each-of (λ (r : Row). actions_len r.actions ≤ 60000) _ (subst AreShort same short)

pub short-requires : goal.short-requires
short-requires c =
    subst (λ (ms : List Message). AllByRecursion (λ (m : Message). wire_len m < 2 ^ 63) ms) (sym c.deref-2.ensures.value)
    (replies-short _ _ _ c.in_ok-replies.ensures.told.replies)
