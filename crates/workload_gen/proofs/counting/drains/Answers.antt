use Rattle.std.proofs.Common.{sym}
use Rattle.workload_gen.specs.Draws.{due}
use Rattle.workload_gen.proofs.Counted.{count-report}
use Rattle.workload_gen.proofs.counting.drains.Goals as goal

pub returns-in-Some : goal.returns-in-Some
returns-in-Some c = count-report c.args.world.now (due c.args.world.now.fleet.control) c.in-Some.stamp c.may_be_drained.result (sym c.in-Some.ensures) c.may_be_drained.ensures
