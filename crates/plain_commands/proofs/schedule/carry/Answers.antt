use Rattle.std.proofs.Common.{List, [], ◌∷◌, ◌++◌, refl, sym, ◌∙◌, ap}
use Rattle.topology_model.specs.Layouts.{Layout}
use Rattle.plain_commands.specs.Schedules.{event_of}
use Rattle.world_core.specs.declared.event.Event.{Event}
use Rattle.world_core.specs.Settling.{settling, flowing}
use Rattle.plain_commands.proofs.Scheduling.{step-topology, followed-runs, runs-topology, does-one}
use Rattle.plain_commands.proofs.schedule.carry.Goals as goal

pub returns-in_ok-settle-in-Settle-clause-topology :
    goal.returns-in_ok-settle-in-Settle-clause-topology
returns-in_ok-settle-in-Settle-clause-topology c = runs-topology c.args.world.now c.in_ok-settle-in-Settle.ensures.ok.0 c.settle.new.self (followed-runs settling _ _ _ c.in_ok-settle-in-Settle.ensures.ok.1.done)

pub returns-in_ok-flow-in-Flow-clause-topology :
    goal.returns-in_ok-flow-in-Flow-clause-topology
returns-in_ok-flow-in-Flow-clause-topology c = runs-topology c.args.world.now c.in_ok-flow-in-Flow.ensures.ok.0 c.flow.new.self (followed-runs flowing _ _ _ c.in_ok-flow-in-Flow.ensures.ok.1.done)

pub returns-in_ok-step-in_default : goal.returns-in_ok-step-in_default
returns-in_ok-step-in_default c = record {
  done = (
    c.in-Some.event ∷ [],
    does-one c.args.world.now.topology.switches c.args.packets.now c.args.order c.args.world.now (c.in-Some.event ∷ []) c.step.new.self c.in_default.not-Settle c.in_default.not-Flow
        (record { event = c.in-Some.event; is = sym (sym c.in-Some.is ∙ c.in_ok-named-in_default.ensures ∙ ap (λ (t : Layout). event_of t.switches c.args.packets.now c.args.order) c.topology.ensures); step = c.in_ok-step-in_default.ensures.ok; all = refl }),
    c.push_reserved.ensures.items ∙ ap (λ (es : List Event). es ++ c.in-Some.event ∷ []) c.reserve.ensures.items,
  );
  topology = step-topology c.args.world.now c.in-Some.event c.step.new.self c.in_ok-step-in_default.ensures.ok;
  refused = λ e. absurd (cc);
}
