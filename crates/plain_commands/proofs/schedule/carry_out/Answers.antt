use Rattle.std.proofs.Common.{refl, ◌∙◌, ap, Err}
use Rattle.world_core.specs.declared.fault.StepError.TheVariants as step
use Rattle.plain_commands.proofs.Scheduling.{carried-next, only-fault, stops}
use Rattle.plain_commands.proofs.schedule.carry_out.Goals as goal

pub returns-in-Err-Fault-NotEnabled-clause-stop : goal.returns-in-Err-Fault-NotEnabled-clause-stop
returns-in-Err-Fault-NotEnabled-clause-stop c = (
  _,
  refl,
  stops _ c.args.packets.now c.args.world.now c.args.schedule.now c.loop-line.line-index _ c.loop-line.events.items c.loop-line.world c.loop-line-test.true c.loop-line.invariant.0 c.loop-line.invariant.1 refl
      (c.in-Err-Fault-NotEnabled.ensures.refused (ap Err (c.in-Err-Fault-NotEnabled.field-0-is ∙ ap step.Fault (only-fault c.in-Err-Fault-NotEnabled.field-0-0)))),
)

pub loop-line-preserved : goal.loop-line-preserved
loop-line-preserved c = (
  carried-next _ c.args.packets.now c.args.world.now c.args.schedule.now c.loop-line.line-index _ c.loop-line.events.items c.loop-line.world _ _ c.loop-line-test.true c.loop-line.invariant.0 c.loop-line.invariant.1 refl c.in-Ok.ensures.done,
  c.in-Ok.ensures.topology ∙ c.loop-line.invariant.1,
)
