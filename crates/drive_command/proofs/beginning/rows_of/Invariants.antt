use Rattle.std.proofs.Common.{◌≡◌}
use Rattle.world_core.specs.Worlds.{rows_of}
use Rattle.drive_command.proofs.beginning.rows_of.Given as goal

abbrev pub invariant-loop-version : goal.invariant-loop-version
invariant-loop-version l = l.all.items ≡ rows_of l.yielded
