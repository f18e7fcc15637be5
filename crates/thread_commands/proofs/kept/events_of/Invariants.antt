use Rattle.std.proofs.Common.{◌≡◌}
use Rattle.world_journal.specs.Journals.{events_of}
use Rattle.thread_commands.proofs.kept.events_of.Given as goal

abbrev pub invariant-loop-entry : goal.invariant-loop-entry
invariant-loop-entry l = l.events.items ≡ events_of l.yielded
