use Rattle.std.proofs.Common.{◌≡◌}
use Rattle.world_core.specs.Worlds.{pols_of, rows_of}
use Rattle.world_core.proofs.world.making.lists_of.Given as goal

abbrev pub invariant-loop-version : goal.invariant-loop-version
invariant-loop-version l = record { policies : l.policies.items ≡ pols_of l.yielded; rows : l.rows.items ≡ rows_of l.yielded }
