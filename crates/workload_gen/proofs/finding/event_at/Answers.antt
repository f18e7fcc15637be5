use Rattle.workload_gen.proofs.Counted.{count-bit}
use Rattle.workload_gen.proofs.Found.{at-heard, at-pending, at-reply, past-pending}
use Rattle.workload_gen.proofs.finding.event_at.Goals as goal

pub returns-then-number-hears : goal.returns-then-number-hears
returns-then-number-hears c = at-heard c.args.world.now c.args.place c.may_be_heard.result c.from-hears.result c.args.number c.may_be_heard.ensures c.from-hears.ensures c.if-number-hears.true

pub returns-then-number-replies : goal.returns-then-number-replies
returns-then-number-replies c =
    at-reply c.args.world.now c.args.place c.may_be_heard.result c.may_reply.result c.from-hears.result c.from-replies.result c.args.number c.may_be_heard.ensures c.may_reply.ensures c.from-hears.ensures c.from-replies.ensures
    c.requires c.if-number-hears.false c.if-number-replies.true

pub returns-then-number-pending : goal.returns-then-number-pending
returns-then-number-pending c =
    at-pending c.args.world.now c.args.place c.from-hears.result c.from-replies.result c.pending_at-pending.result c.args.number (record {
      hears = count-bit c.args.world.now _ c.may_be_heard.result c.from-hears.result c.may_be_heard.ensures c.from-hears.ensures;
      replies = count-bit c.args.world.now _ c.may_reply.result c.from-replies.result c.may_reply.ensures c.from-replies.ensures;
      small = c.requires;
      past = c.if-number-hears.false;
      past_both = c.if-number-replies.false;
    }) c.pending_at-pending.ensures c.pending_at-pending.type_inv c.if-number-pending.true

pub returns : goal.returns
returns c =
    past-pending c.args.world.now c.args.place c.from-hears.result c.from-replies.result c.pending_at-pending.result c.args.number c.channel_event_at.result (record {
      hears = count-bit c.args.world.now _ c.may_be_heard.result c.from-hears.result c.may_be_heard.ensures c.from-hears.ensures;
      replies = count-bit c.args.world.now _ c.may_reply.result c.from-replies.result c.may_reply.ensures c.from-replies.ensures;
      small = c.requires;
      past = c.if-number-hears.false;
      past_both = c.if-number-replies.false;
    }) c.pending_at-pending.ensures c.pending_at-pending.type_inv c.if-number-pending.false c.channel_event_at.ensures
