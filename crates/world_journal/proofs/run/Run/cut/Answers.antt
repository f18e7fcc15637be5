use Rattle.world_journal.specs.Journals.{switches}
use Rattle.world_journal.proofs.Counting.{counts-call}
use Rattle.world_journal.proofs.Marks.{arrived-same}
use Rattle.world_journal.proofs.Returning.{met-plain, sessions-call}
use Rattle.world_journal.proofs.Staying.{call-lines}
use Rattle.world_journal.proofs.Telling.{met-silent}
use Rattle.world_journal.proofs.run.Run.cut.Goals as goal

pub invariant_of-self : goal.invariant_of-self
invariant_of-self g c =
    let plain = met-plain (switches g.L.RunName.start) g.E.Link.named g.E.Link.faults g.E.Link.received c.args.self.now.held.journal c.args.event c.args.end c.requires.met in (
      c.self.invariant.0,
      arrived-same g.L.RunName.lines c.self.inside.arrived.items c.self.inside.held.world.arrivals c.cut.new.self.world.arrivals c.self.invariant.1
          (call-lines c.self.inside.held c.cut.new.self _ c.cut.result c.args.event c.cut.ensures.world c.cut.ensures.err plain.0),
      c.self.invariant.2,
      c.self.invariant.3,
      c.self.invariant.4,
      c.self.invariant.5,
      c.self.invariant.6,
      sessions-call _ _ _ c.self.inside.held c.cut.new.self _ _ _ c.args.seat.now.worker c.args.event _ c.cut.result c.self.invariant.7 c.cut.ensures.journal c.cut.ensures.err plain.1,
      counts-call _ c.self.inside.held c.cut.new.self _ _ c.args.seat.now.worker c.args.event _ c.cut.result c.self.invariant.8 c.cut.ensures.journal c.cut.ensures.err
          (met-silent (switches g.L.RunName.start) g.E.Link.named g.E.Link.faults g.E.Link.received c.args.self.now.held.journal c.args.event c.args.end c.requires.met) plain.1,
    )
