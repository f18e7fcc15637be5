use Rattle.std.proofs.Common.{List, ℕ, [], ◌∙◌, ◌<◌, ap, subst}
use Rattle.std.specs.List.{AllByRecursion}
use Rattle.std.proofs.lemmas.Result.{IfOk-weaker}
use Rattle.nk_values.specs.declared.row.Row.{Row}
use Rattle.nk_values.specs.Members.{IsIn}
use Rattle.flow_table.specs.Changed.{TableValue}
use Rattle.openflow_wire.specs.declared.message.Message.{Message}
use Rattle.openflow_wire.specs.Writing.{Fits, message_xid}
use Rattle.switch_model.specs.Stats.{AreReplies, AreTold, IsOfTable, deletion}
use Rattle.switch_model.proofs.StatsLaws.{told-fit, replies-fit}
use Rattle.switch_model.proofs.switch.Switch.stats.Goals as goal

pub returns-then-not-is_of_table-clause-fits : goal.returns-then-not-is_of_table-clause-fits
returns-then-not-is_of_table-clause-fits c = λ f w.
    IfOk-weaker c.replies.result (λ v. AreReplies c.in-FlowStatsRequest.xid [] v.items) (λ v. AllByRecursion Fits v.items)
    (λ v a. replies-fit c.in-FlowStatsRequest.xid [] v.items (subst (λ (m : Message). message_xid m < 4294967296) c.in-FlowStatsRequest.is f.xid) (λ r i. absurd i) a) c.replies.ensures

pub returns-clause-fits : goal.returns-clause-fits
returns-clause-fits c = λ f w.
    let change = deletion c.in-FlowStatsRequest.pattern c.in-FlowStatsRequest.out_port in
    let rows = c.rows.result.now in
    IfOk-weaker c.row_replies.result (λ v. (table : ℕ) → IsOfTable table → AreTold rows c.in-FlowStatsRequest.xid table change v.items) (λ v. AllByRecursion Fits v.items)
    (λ v t. told-fit rows c.in-FlowStatsRequest.xid c.in-FlowStatsRequest.table change v.items (subst (λ (m : Message). message_xid m < 4294967296) c.in-FlowStatsRequest.is f.xid)
    (λ r i. w r (subst (λ (rs : List Row). IsIn rs r) (c.rows.ensures.rows ∙ ap (λ (t : TableValue). t.rows) c.table.ensures) i))
    (t c.in-FlowStatsRequest.table (c.is_of_table.ensures.0 c.if-not-is_of_table.false))) c.row_replies.ensures
