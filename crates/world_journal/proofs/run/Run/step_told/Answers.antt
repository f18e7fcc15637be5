use Rattle.std.proofs.Common.{◌≡◌, ◌+◌, arith}
use Rattle.std.proofs.lemmas.Grind.{common_steps}
use Rattle.world_journal.proofs.Counting.{counts-heard, counts-taken}
use Rattle.world_journal.proofs.Marks.{arrived-same}
use Rattle.world_journal.proofs.Returning.{sessions-step}
use Rattle.world_journal.proofs.Staying.{step-lines}
use Rattle.world_journal.proofs.run.Run.step_told.Goals as goal

pub invariant_of-self-in-Controller : goal.invariant_of-self-in-Controller
invariant_of-self-in-Controller g c =
    let more : c.in-Some.count ≡ c.told.result + 1 = grind (arith, common_steps, c.in-Some.ensures) in (
      c.self.invariant.0,
      arrived-same g.L.RunName.lines c.self.inside.arrived.items c.self.inside.held.world.arrivals c.step.new.self.world.arrivals c.self.invariant.1
          (step-lines c.self.inside.held.world c.args.event c.step.new.self.world c.in_ok-step.ensures.world c.requires.plain.1),
      c.self.invariant.2,
      c.self.invariant.3,
      c.self.invariant.4,
      c.self.invariant.5,
      c.self.invariant.6,
      sessions-step _ _ _ c.self.inside.held.journal c.step.new.self.journal _ _ _ c.args.seat.now.worker c.args.event c.self.invariant.7 c.in_ok-step.ensures.journal c.requires.plain.2,
      counts-heard _ c.self.inside.held.journal c.step.new.self.journal _ _ c.args.seat.now.worker c.args.event c.args.side c.args.s c.told.result c.in-Some.count
          c.self.invariant.8 c.in_ok-step.ensures.journal c.in-Controller.is c.requires.told c.requires.place (rw (← c.self.view_is) at c.told.ensures) more,
    )

pub invariant_of-self-in-Switch : goal.invariant_of-self-in-Switch
invariant_of-self-in-Switch g c =
    let more : c.in-Some.count ≡ c.told.result + 1 = grind (arith, common_steps, c.in-Some.ensures) in (
      c.self.invariant.0,
      arrived-same g.L.RunName.lines c.self.inside.arrived.items c.self.inside.held.world.arrivals c.step.new.self.world.arrivals c.self.invariant.1
          (step-lines c.self.inside.held.world c.args.event c.step.new.self.world c.in_ok-step.ensures.world c.requires.plain.1),
      c.self.invariant.2,
      c.self.invariant.3,
      c.self.invariant.4,
      c.self.invariant.5,
      c.self.invariant.6,
      sessions-step _ _ _ c.self.inside.held.journal c.step.new.self.journal _ _ _ c.args.seat.now.worker c.args.event c.self.invariant.7 c.in_ok-step.ensures.journal c.requires.plain.2,
      counts-taken _ c.self.inside.held.journal c.step.new.self.journal _ _ c.args.seat.now.worker c.args.event c.args.side c.args.s c.told.result c.in-Some.count
          c.self.invariant.8 c.in_ok-step.ensures.journal c.in-Switch.is c.requires.told c.requires.place (rw (← c.self.view_is) at c.told.ensures) more,
    )
