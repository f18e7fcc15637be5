use Rattle.std.proofs.Common.{◌∷◌, ◌++◌, [], ◌∙◌, ap, arith}
use Rattle.openflow_wire.specs.declared.flow_stats.FlowStats.{FlowStats}
use Rattle.openflow_wire.specs.FlowStats.{entry_len}
use Rattle.switch_model.proofs.StatsLaws.{step-tells, step-len}
use Rattle.switch_model.proofs.replies.ReplySeries.add.Goals as goal

pub returns-clause-len : goal.returns-clause-len
returns-clause-len c =
    let old = c.args.self.now in
    let now = c.make_room.new.self in
    let is = c.entry_len-size.ensures.value ∙ ap entry_len c.in_ok-entry.ensures in
    let with = c.in_ok-push.ensures.ok ∙ ap (λ (e : FlowStats). now.entries ++ e ∷ []) c.in_ok-entry.ensures in
    (step-len old.xid c.entry_len-size.result now.len old.full.items old.entries c.args.row.now now.full.items now.entries c.push.new.self is (let s = c.requires.small in omega (arith, is, s))
    c.in_ok-make_room.ensures.room with c.in_ok-make_room.ensures.len).0

pub returns-clause-more : goal.returns-clause-more
returns-clause-more c =
    let old = c.args.self.now in
    let now = c.make_room.new.self in
    let is = c.entry_len-size.ensures.value ∙ ap entry_len c.in_ok-entry.ensures in
    let with = c.in_ok-push.ensures.ok ∙ ap (λ (e : FlowStats). now.entries ++ e ∷ []) c.in_ok-entry.ensures in
    step-tells old.xid c.entry_len-size.result old.full.items old.entries c.args.row.now now.full.items now.entries c.push.new.self is (let s = c.requires.small in omega (arith, is, s))
    c.in_ok-make_room.ensures.room with
