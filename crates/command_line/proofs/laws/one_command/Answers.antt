use Rattle.command_line.proofs.Words.{one_command_asked}
use Rattle.command_line.proofs.laws.one_command.Goals as goal

pub returns : goal.returns
returns c = one_command_asked
