use Rattle.world_journal.proofs.Counting.{counts-call}
use Rattle.world_journal.proofs.Marks.{arrived-same}
use Rattle.world_journal.proofs.Staying.{call-lines}
use Rattle.world_journal.proofs.Returning.{sessions-call}
use Rattle.world_journal.proofs.run.Run.step_plain.Goals as goal

pub invariant_of-self : goal.invariant_of-self
invariant_of-self g c = (
  c.self.invariant.0,
  arrived-same g.L.RunName.lines c.self.inside.arrived.items c.self.inside.held.world.arrivals c.step.new.self.world.arrivals c.self.invariant.1
      (call-lines c.self.inside.held c.step.new.self _ c.step.result c.args.event c.step.ensures.world c.step.ensures.err c.requires.plain.1),
  c.self.invariant.2,
  c.self.invariant.3,
  c.self.invariant.4,
  c.self.invariant.5,
  c.self.invariant.6,
  sessions-call _ _ _ c.self.inside.held c.step.new.self _ _ _ c.args.seat.now.worker c.args.event _ c.step.result c.self.invariant.7 c.step.ensures.journal c.step.ensures.err c.requires.plain.2,
  counts-call _ c.self.inside.held c.step.new.self _ _ c.args.seat.now.worker c.args.event _ c.step.result c.self.invariant.8 c.step.ensures.journal c.step.ensures.err c.requires.silent c.requires.plain.2,
)
