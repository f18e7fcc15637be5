use Rattle.std.proofs.Common.{◌≡◌, ◌≤◌, ◌++◌, ◌∷◌, [], false, take}
use Rattle.openflow_wire.specs.declared.message.Message.TheVariants as to
use Rattle.switch_model.specs.Stats.{AreReplies, reply_len}
use Rattle.switch_model.proofs.replies.replies.Given as goal

abbrev pub invariant-loop-row : goal.invariant-loop-row
invariant-loop-row l =
    (l.series.xid ≡ l.xid) × (l.series.len ≡ reply_len l.series.entries) × (l.series.len ≤ 65535)
    × AreReplies l.xid (take l.row-index l.rows) (l.series.full.items ++ to.FlowStatsReply l.xid false l.series.entries ∷ [])
