use Rattle.std.proofs.Common.{subst}
use Rattle.world_core.specs.declared.event.SwitchEvent.{SwitchEvent}
use Rattle.world_core.specs.declared.event.Event.TheVariants as event
use Rattle.world_core.specs.declared.event.SwitchEvent.TheVariants as of_switch
use Rattle.world_core.specs.Steps.{Step}
use Rattle.workload_gen.proofs.Recounting.{applied-others, one-count, replied-others, step-topology, taken-others}
use Rattle.workload_gen.proofs.tally.Tally.recount_switch.Goals as goal

pub returns-in-Take : goal.returns-in-Take
returns-in-Take c = λ w a h.
    let s : Step w (event.Switch (of_switch.Take c.in-Take.place)) c.args.world.now = subst (λ (e : SwitchEvent). Step w (event.Switch e) c.args.world.now) c.in-Take.is h in
    one-count w c.args.world.now c.in-Take.place c.args.self.now c.recount_at.new.self (step-topology w (event.Switch (of_switch.Take c.in-Take.place)) c.args.world.now s) (taken-others w c.args.world.now c.in-Take.place s)
    c.recount_at.ensures.length c.recount_at.ensures.here c.recount_at.ensures.others a

pub returns-in-Apply : goal.returns-in-Apply
returns-in-Apply c = λ w a h.
    let s : Step w (event.Switch (of_switch.Apply c.in-Apply.place c.in-Apply.field-1)) c.args.world.now = subst (λ (e : SwitchEvent). Step w (event.Switch e) c.args.world.now) c.in-Apply.is h in
    one-count w c.args.world.now c.in-Apply.place c.args.self.now c.recount_at-in-Apply.new.self (step-topology w (event.Switch (of_switch.Apply c.in-Apply.place c.in-Apply.field-1)) c.args.world.now s) (applied-others w c.args.world.now c.in-Apply.place c.in-Apply.field-1 s)
    c.recount_at-in-Apply.ensures.length c.recount_at-in-Apply.ensures.here c.recount_at-in-Apply.ensures.others a

pub returns-in-Reply : goal.returns-in-Reply
returns-in-Reply c = λ w a h.
    let s : Step w (event.Switch (of_switch.Reply c.in-Reply.place)) c.args.world.now = subst (λ (e : SwitchEvent). Step w (event.Switch e) c.args.world.now) c.in-Reply.is h in
    one-count w c.args.world.now c.in-Reply.place c.args.self.now c.recount_at-in-Reply.new.self (step-topology w (event.Switch (of_switch.Reply c.in-Reply.place)) c.args.world.now s) (replied-others w c.args.world.now c.in-Reply.place s)
    c.recount_at-in-Reply.ensures.length c.recount_at-in-Reply.ensures.here c.recount_at-in-Reply.ensures.others a
