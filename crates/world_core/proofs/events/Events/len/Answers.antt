use Rattle.std.proofs.Common.{length, arith, ap}
use Rattle.world_core.specs.Lists.{EventList}
use Rattle.world_core.proofs.Packing.{unpacked-length}
use Rattle.world_core.proofs.events.Events.len.Goals as goal

pub returns : goal.returns
returns c =
    let whole = unpacked-length c.self.inside.short.items c.self.inside.whole.items c.self.invariant in
    let same = ap (λ (v : EventList). length v.items) c.self.view_is in
    omega (arith, c.len.ensures, whole, same, c.self.inside.short.ok)
