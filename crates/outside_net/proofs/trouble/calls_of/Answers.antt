use Rattle.std.proofs.Common.{rules, ◌<◌, length}
use Rattle.outside_net.proofs.Listed.{listed_call, listed_send}
use Rattle.outside_net.proofs.trouble.calls_of.Goals as goal
use Rattle.outside_net.proofs.trouble.calls_of.Goals.{in-Call+in_ok-push-in-Call, in-Send}

pub loop-trouble-preserved : goal.loop-trouble-preserved
loop-trouble-preserved c =
    let h : c.loop-trouble.trouble-index < length c.args.troubles.now = search rules in
    elim c.match-trouble.branch [
      | in-Call+in_ok-push-in-Call w ↦
          let more = listed_call c.args.troubles.now c.loop-trouble.trouble-index c.trouble-item.result w.in-Call.number c.loop-trouble.calls.items h c.trouble-item.is w.in-Call.is c.loop-trouble.invariant in
          cc (more, w.in_ok-push-in-Call.ensures.items)
      | in-Send w ↦
          let same = listed_send c.args.troubles.now c.loop-trouble.trouble-index c.trouble-item.result w.in-Send.field-0 w.in-Send.field-1 w.in-Send.field-2 w.in-Send.field-3 c.loop-trouble.calls.items h c.trouble-item.is w.in-Send.is c.loop-trouble.invariant in
          cc (same)
    ]
