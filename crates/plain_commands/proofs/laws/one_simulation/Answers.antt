use Rattle.plain_commands.proofs.Repeating.{one-simulation, one-line, not-both}
use Rattle.plain_commands.proofs.laws.one_simulation.Goals as goal

pub returns : goal.returns
returns c = record { report = one-simulation; stop = one-line; either = not-both }
