use Rattle.world_journal.proofs.Growing.{cuts-held}
use Rattle.world_journal.proofs.held.BookedWorld.cut.Goals as goal

pub invariant_of-self-2 : goal.invariant_of-self-2
invariant_of-self-2 g c =
    cuts-held g.E.Link.named g.E.Link.faults g.E.Link.received g.L.RunName.start c.self.inside.world c.step.new.self c.self.inside.journal.items c.reserve.new.self.items c.push_reserved.new.self.items
    c.self.inside.ends.items c.reserve-2.new.self.items c.push_reserved-2.new.self.items c.args.seat.now.worker c.args.event c.args.end c.self.inside.book.total c.add.new.self.total
    c.self.invariant c.reserve.ensures.items c.push_reserved.ensures.items c.reserve-2.ensures.items c.push_reserved-2.ensures.items c.add.ensures.total c.in-Ok-step.ensures.ok
    c.requires.maker (rw (← c.self.view_is) at c.requires.met)
