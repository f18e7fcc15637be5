use Rattle.std.proofs.Common.{◌≡◌, ◌++◌, take, string_bytes}
use Rattle.drive_text.specs.Drives.{steerings_text}
use Rattle.drive_text.proofs.drives.put_journal.Given as goal

abbrev pub invariant-loop-event : goal.invariant-loop-event
invariant-loop-event l = string_bytes l.out ≡ string_bytes l.initial.out ++ steerings_text l.switches (take l.event-index l.journal)
