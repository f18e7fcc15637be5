use Rattle.std.proofs.Common.{◌≡◌, take}
use Rattle.plain_commands.specs.Schedules.{CarriedOut}
use Rattle.plain_commands.proofs.schedule.carry_out.Given as goal

abbrev pub invariant-loop-line : goal.invariant-loop-line
invariant-loop-line l = CarriedOut l.fn.world.topology.switches l.packets l.fn.world (take l.line-index l.schedule) l.events.items l.world × (l.world.topology ≡ l.fn.world.topology)
