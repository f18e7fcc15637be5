use Rattle.std.proofs.Common.{◌≡◌, ◌<◌, ◌+◌, ◌%◌, Some, slice_get, length, refl, ap, ◌∙◌, arith}
use Rattle.std.proofs.lemmas.Grind.{common_steps}
use Rattle.std.proofs.lemmas.List.{length-set}
use Rattle.std.proofs.lemmas.Option.{slice_get_read}
use Rattle.world_core.specs.declared.event.Event.TheVariants as event
use Rattle.world_core.specs.declared.event.ControllerEvent.TheVariants as of_controller
use Rattle.world_journal.specs.Journals.{switches}
use Rattle.world_journal.proofs.Counting.{counts-returned}
use Rattle.world_journal.proofs.Marks.{arrived-same}
use Rattle.world_journal.proofs.Numbers.{name-place}
use Rattle.world_journal.proofs.Returning.{sessions-next}
use Rattle.world_journal.proofs.Staying.{step-lines}
use Rattle.world_journal.proofs.run.Run.return_over.Goals as goal

pub invariant_of-self-2 : goal.invariant_of-self-2
invariant_of-self-2 g c =
    let numbers = c.self.inside.sessions.items in
    let within : c.args.s < length numbers = omega (arith, c.requires.place, c.self.invariant.7.many) in
    let here : slice_get numbers c.args.s ≡ Some c.index.result.now = slice_get_read numbers (length numbers) c.args.s c.index.result.now refl within c.index.ensures in
    let more : c.in-Some.number ≡ c.index.result.now + 1 = grind (arith, common_steps, c.in-Some.ensures) in
    let place = name-place (switches g.L.RunName.start) c.args.s _ c.requires.place in (
      c.self.invariant.0,
      arrived-same g.L.RunName.lines c.self.inside.arrived.items c.self.inside.held.world.arrivals c.step.new.self.world.arrivals c.self.invariant.1
          (step-lines c.self.inside.held.world (event.Controller (of_controller.Rejoin c.args.s)) c.step.new.self.world c.in_ok-step.ensures.world refl),
      c.self.invariant.2,
      c.self.invariant.3,
      c.self.invariant.4,
      length-set c.self.inside.to_waits.items c.args.s _ ∙ c.self.invariant.5,
      length-set c.self.inside.back_waits.items c.args.s _ ∙ c.self.invariant.6,
      sessions-next _ _ _ c.self.inside.held.journal c.step.new.self.journal numbers _ _ c.args.seat.now.worker c.args.s c.index.result.now c.in-Some.number c.args.pair.0 c.args.pair.1 c.self.invariant.7 c.in_ok-step.ensures.journal here more
          (ap (λ k. k % switches g.L.RunName.start) c.requires.named.0 ∙ place, c.requires.fresh.0) (ap (λ k. k % switches g.L.RunName.start) (c.requires.named.1 ∙ c.requires.named.0) ∙ place, c.requires.fresh.1),
      counts-returned _ c.self.inside.held.journal c.step.new.self.journal _ _ c.args.seat.now.worker c.args.s c.self.invariant.8 c.in_ok-step.ensures.journal c.requires.place,
    )

pub returns-clause-made : goal.returns-clause-made
returns-clause-made g c =
    rw (← c.self.view_is) (record {
      between = record {
        held = c.step.new.self;
        arrived = c.self.inside.arrived.items;
        closed = c.self.inside.closed;
        back = c.self.inside.back;
        to_waits = c.self.inside.to_waits.items;
        back_waits = c.self.inside.back_waits.items;
        to_ends = c.self.inside.to_ends.items;
        back_ends = c.self.inside.back_ends.items;
      };
      step = record {
        step = c.in_ok-step.ensures.world;
        journal = c.in_ok-step.ensures.journal;
        ends = c.in_ok-step.ensures.ends;
        rest = record { arrived = refl; closed = refl; back = refl; to_waits = refl; back_waits = refl; to_ends = refl; back_ends = refl };
      };
      now = refl;
    })
