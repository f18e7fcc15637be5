use Rattle.std.proofs.Common.{subst}
use Rattle.world_core.specs.declared.event.ControllerEvent.{ControllerEvent}
use Rattle.world_core.specs.declared.event.Event.TheVariants as event
use Rattle.world_core.specs.declared.event.ControllerEvent.TheVariants as of_controller
use Rattle.world_core.specs.Steps.{Step}
use Rattle.workload_gen.proofs.Recounting.{new-counts, one-count, sent-others, step-topology}
use Rattle.workload_gen.proofs.tally.Tally.recount_control.Goals as goal

pub returns-in-Send : goal.returns-in-Send
returns-in-Send c = λ w a p h.
    let s : Step w (event.Controller (of_controller.Send c.in-Send.place)) c.args.world.now = subst (λ (e : ControllerEvent). Step w (event.Controller e) c.args.world.now) c.in-Send.is h in
    one-count w c.args.world.now c.in-Send.place c.args.self.now c.recount_at.new.self (step-topology w (event.Controller (of_controller.Send c.in-Send.place)) c.args.world.now s) (sent-others w c.args.world.now c.in-Send.place s)
    c.recount_at.ensures.length c.recount_at.ensures.here c.recount_at.ensures.others a

pub returns-in-Heard : goal.returns-in-Heard
returns-in-Heard c = λ w a p h. c.recount_heard.ensures w a p (subst (λ (e : ControllerEvent). Step w (event.Controller e) c.args.world.now) c.in-Heard.is h)

pub returns-in_default : goal.returns-in_default
returns-in_default c = λ w a p h.
    new-counts w c.args.world.now c.args.self.now c.recount_all.new.self (step-topology w (event.Controller c.args.control) c.args.world.now h) c.recount_all.ensures.length c.recount_all.ensures.each a
