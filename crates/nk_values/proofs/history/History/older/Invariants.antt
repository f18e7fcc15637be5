use Rattle.std.proofs.Common.{◌≡◌, ◌++◌}
use Rattle.nk_values.specs.Pasts.{older_packets}
use Rattle.nk_values.proofs.history.History.older.Given as goal

abbrev pub invariant-loop-rest : goal.invariant-loop-rest
invariant-loop-rest l = l.packets.items ++ older_packets l.rest ≡ l.self.older
