use Rattle.std.proofs.Common.{◌∷◌, [], refl, arith, length-append}
use Rattle.world_core.specs.declared.short.ShortEvent.TheVariants.{Whole}
use Rattle.world_core.proofs.Packing.{unpacked-whole, unpacked-length, count-more}
use Rattle.world_core.proofs.events.Events.push_whole.Goals as goal

pub invariant_of-self : goal.invariant_of-self
invariant_of-self c =
    let more = length-append c.self.inside.whole.items (c.args.event ∷ []) in
    rw (c.push_reserved.ensures.items, c.push_reserved-2.ensures.items) (omega (arith, more, count-more c.self.inside.short.items Whole, c.self.invariant))

pub returns-clause-items : goal.returns-clause-items
returns-clause-items c = rw (c.push_reserved.ensures.items, c.push_reserved-2.ensures.items, ← c.self.view_is) (unpacked-whole c.self.inside.short.items _ c.args.event c.self.inside.whole.items refl c.self.invariant)

pub returns-clause-small : goal.returns-clause-small
returns-clause-small c =
    let all = unpacked-length c.push_reserved.new.self.items c.push_reserved-2.new.self.items (invariant_of-self c) in
    omega (arith, all, c.push_reserved.new.self.ok, c.push_reserved.new.self.small)
