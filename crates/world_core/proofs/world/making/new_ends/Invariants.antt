use Rattle.std.proofs.Common.{◌≡◌, map, take}
use Rattle.world_core.specs.Ends.{new_end}
use Rattle.world_core.proofs.world.making.new_ends.Given as goal

abbrev pub invariant-loop-sw : goal.invariant-loop-sw
invariant-loop-sw l = l.wired.items ≡ map (new_end l.capacity) (take l.sw-index l.numbers)
