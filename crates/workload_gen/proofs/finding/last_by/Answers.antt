use Rattle.workload_gen.proofs.Counted.{count-is}
use Rattle.workload_gen.proofs.Found.{at-report, finds-is, past-last}
use Rattle.workload_gen.proofs.finding.last_by.Goals as goal

pub returns-then-number-begins-2 : goal.returns-then-number-begins-2
returns-then-number-begins-2 c =
    let w = c.args.world.now in
    finds-is w _ c.args.number _ c.report.result c.report.ensures
    (at-report w c.args.packets.now c.begins.result c.from-arrives.result c.from-begins.result c.from.result c.args.number
    (count-is w _ _ c.from-arrives.result c.arrives.ensures c.from-arrives.ensures) c.begins.ensures c.from-begins.ensures (count-is w _ _ c.from.result c.drains.ensures c.from.ensures)
    c.requires c.if-number-arrives.false c.if-number-begins.false c.if-number-begins-2.true)

pub returns : goal.returns
returns c =
    let w = c.args.world.now in
    past-last w c.args.packets.now c.begins.result c.from-arrives.result c.from-begins.result c.from.result c.args.number
    (count-is w _ _ c.from-arrives.result c.arrives.ensures c.from-arrives.ensures) c.begins.ensures c.from-begins.ensures (count-is w _ _ c.from.result c.drains.ensures c.from.ensures)
    c.requires c.if-number-arrives.false c.if-number-begins.false c.if-number-begins-2.false
