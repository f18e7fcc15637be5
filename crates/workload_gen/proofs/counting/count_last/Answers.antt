use Rattle.workload_gen.proofs.Counted.{count-last}
use Rattle.workload_gen.proofs.counting.count_last.Goals as goal

pub returns : goal.returns
returns c =
    count-last c.args.world.now c.args.packets.now c.arrives.result c.begins.result c.drains.result c.from-arrives.result c.from-begins.result c.from-drains.result
    c.arrives.ensures c.begins.ensures c.drains.ensures c.from-arrives.ensures c.from-begins.ensures c.from-drains.ensures
