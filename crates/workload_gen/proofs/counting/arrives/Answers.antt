use Rattle.std.proofs.Common.{rules}
use Rattle.workload_gen.proofs.Counted.{count-arrival}
use Rattle.workload_gen.proofs.counting.arrives.Goals as goal

pub returns-in-Some : goal.returns-in-Some
returns-in-Some c = count-arrival c.args.world.now c.args.packets.now c.in-Some.line.now c.may_arrive.result (search (rules, c.in-Some.ensures)) c.may_arrive.ensures
