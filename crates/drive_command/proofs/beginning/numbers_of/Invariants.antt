use Rattle.std.proofs.Common.{◌≡◌, take}
use Rattle.world_core.specs.Worlds.{numbers_of}
use Rattle.drive_command.proofs.beginning.numbers_of.Given as goal

abbrev pub invariant-loop-site : goal.invariant-loop-site
invariant-loop-site l = l.numbers.items ≡ numbers_of (take l.site-index l.sites)
