use Rattle.std.proofs.Common.{arith}
use Rattle.workload_gen.proofs.Counted.{bit-of-small, count-switch}
use Rattle.workload_gen.proofs.counting.count_at.Goals as goal

pub returns : goal.returns
returns c =
    count-switch c.args.world.now c.args.place c.may_be_heard.result c.may_reply.result c.may_take.result c.may_send.result
    c.pending_at.result c.from-hears.result c.from-replies.result c.from-takes.result c.from-sends.result c.saturating_add.result
    c.may_be_heard.ensures c.may_reply.ensures c.may_take.ensures c.may_send.ensures c.pending_at.ensures (omega (arith, c.pending_at.type_inv))
    c.from-hears.ensures c.from-replies.ensures c.from-takes.ensures c.from-sends.ensures c.saturating_add.ensures

pub overflow_add-hears-2 : goal.overflow_add-hears-2
overflow_add-hears-2 c =
    let h = bit-of-small c.may_be_heard.result c.from-hears.result c.from-hears.ensures in
    let r = bit-of-small c.may_reply.result c.from-replies.result c.from-replies.ensures in
    let t = bit-of-small c.may_take.result c.from-takes.result c.from-takes.ensures in
    omega (arith, h, r, t)

pub overflow_add-hears-3 : goal.overflow_add-hears-3
overflow_add-hears-3 c =
    let h = bit-of-small c.may_be_heard.result c.from-hears.result c.from-hears.ensures in
    let r = bit-of-small c.may_reply.result c.from-replies.result c.from-replies.ensures in
    let t = bit-of-small c.may_take.result c.from-takes.result c.from-takes.ensures in
    let s = bit-of-small c.may_send.result c.from-sends.result c.from-sends.ensures in
    omega (arith, h, r, t, s)
