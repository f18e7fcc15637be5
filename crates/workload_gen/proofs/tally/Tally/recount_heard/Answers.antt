use Rattle.world_core.specs.declared.event.Event.TheVariants as event
use Rattle.world_core.specs.declared.event.ControllerEvent.TheVariants as of_controller
use Rattle.workload_gen.proofs.Recounting.{heard-others, new-counts, one-count, step-topology}
use Rattle.workload_gen.proofs.tally.Tally.recount_heard.Goals as goal

pub returns-then-goes_on : goal.returns-then-goes_on
returns-then-goes_on c = λ w a p h.
    let on = c.goes_on.ensures in
    let yes = c.if-goes_on.true in
    one-count w c.args.world.now c.args.place c.args.self.now c.recount_at.new.self (step-topology w (event.Controller (of_controller.Heard c.args.place)) c.args.world.now h)
    (heard-others w c.args.world.now c.args.place c.args.phase h p (on.phase yes) (on.works yes) (on.halt yes))
    c.recount_at.ensures.length c.recount_at.ensures.here c.recount_at.ensures.others a

pub returns-else-goes_on : goal.returns-else-goes_on
returns-else-goes_on c = λ w a p h.
    new-counts w c.args.world.now c.args.self.now c.recount_all.new.self (step-topology w (event.Controller (of_controller.Heard c.args.place)) c.args.world.now h) c.recount_all.ensures.length c.recount_all.ensures.each a
