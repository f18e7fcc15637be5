use Rattle.std.proofs.Common.{subst, sym}
use Rattle.nk_values.specs.declared.row.Row.{Row}
use Rattle.nk_values.specs.Members.{IsIn}
use Rattle.openflow_wire.proofs.RankLaws.{in-at}
use Rattle.switch_model.proofs.replies.replies.Goals as goal

pub add-requires-clause-small : goal.add-requires-clause-small
add-requires-clause-small c =
    c.requires c.row-item.result (subst (λ (r : Row). IsIn c.args.rows.now r) (sym c.row-item.is) (in-at c.args.rows.now c.loop-row.row-index c.row-item.result c.loop-row-test.true))
