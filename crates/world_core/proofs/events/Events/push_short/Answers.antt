use Rattle.std.proofs.Common.{arith}
use Rattle.world_core.proofs.Packing.{unpacked-short, unpacked-length, count-more}
use Rattle.world_core.proofs.events.Events.push_short.Goals as goal

pub invariant_of-self : goal.invariant_of-self
invariant_of-self c = rw c.push_reserved.ensures.items (omega (arith, count-more c.self.inside.short.items c.args.short, c.requires.fits, c.self.invariant))

pub returns-clause-items : goal.returns-clause-items
returns-clause-items c = λ e is. rw (c.push_reserved.ensures.items, ← c.self.view_is) (unpacked-short c.self.inside.short.items c.args.short e c.self.inside.whole.items is)

pub returns-clause-small : goal.returns-clause-small
returns-clause-small c =
    let all = unpacked-length c.push_reserved.new.self.items c.self.inside.whole.items (invariant_of-self c) in
    omega (arith, all, c.push_reserved.new.self.ok, c.push_reserved.new.self.small)
