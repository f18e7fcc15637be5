use Rattle.workload_gen.proofs.Found.{at-take}
use Rattle.workload_gen.proofs.finding.channel_event_at.Goals as goal

pub returns-then-number-takes : goal.returns-then-number-takes
returns-then-number-takes c = at-take c.args.world.now c.args.place c.may_take.result c.from-takes.result c.args.number c.may_take.ensures c.from-takes.ensures c.if-number-takes.true
