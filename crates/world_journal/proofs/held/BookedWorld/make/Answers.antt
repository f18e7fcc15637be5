use Rattle.world_journal.proofs.Growing.{none-held}
use Rattle.world_journal.proofs.held.BookedWorld.make.Goals as goal

pub invariant_of-held : goal.invariant_of-held
invariant_of-held g c =
    none-held g.E.Link.named g.E.Link.faults g.E.Link.received g.L.RunName.start c.args.world c.new.result.items c.new-2.result.items c.open-book.result.0.total
    c.requires.start c.new.ensures.items c.new-2.ensures.items c.open-book.ensures.total
