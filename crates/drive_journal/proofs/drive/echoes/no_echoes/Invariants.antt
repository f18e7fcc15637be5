use Rattle.std.proofs.Common.{◌≡◌, replicate, None}
use Rattle.drive_journal.proofs.drive.echoes.no_echoes.Given as goal

abbrev pub invariant-loop : goal.invariant-loop
invariant-loop l = l.echoes.items ≡ replicate l.counter None
