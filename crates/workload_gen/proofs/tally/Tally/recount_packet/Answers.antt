use Rattle.std.proofs.Common.{ap, subst}
use Rattle.world_core.specs.declared.event.PacketEvent.{PacketEvent}
use Rattle.world_core.specs.declared.event.Event.TheVariants as event
use Rattle.world_core.specs.declared.event.PacketEvent.TheVariants as of_packet
use Rattle.world_core.specs.Steps.{Step}
use Rattle.world_core.specs.Worlds.{WorldValue}
use Rattle.workload_gen.proofs.Recounting.{new-counts, same-counts, step-topology}
use Rattle.workload_gen.proofs.tally.Tally.recount_packet.Goals as goal

pub returns-in-Arrive : goal.returns-in-Arrive
returns-in-Arrive c = λ w a h.
    let s : Step w (event.Packet (of_packet.Arrive c.in-Arrive.field-0 c.in-Arrive.field-1)) c.args.world.now = subst (λ (e : PacketEvent). Step w (event.Packet e) c.args.world.now) c.in-Arrive.is h in
    same-counts w c.args.world.now c.args.self.now (ap (λ (x : WorldValue). x.topology) s.now) (ap (λ (x : WorldValue). x.fleet) s.now) a

pub returns-in-Hop : goal.returns-in-Hop
returns-in-Hop c = λ w a h.
    let s : Step w (event.Packet (of_packet.Hop c.in-Hop.field-0)) c.args.world.now = subst (λ (e : PacketEvent). Step w (event.Packet e) c.args.world.now) c.in-Hop.is h in
    same-counts w c.args.world.now c.args.self.now (ap (λ (x : WorldValue). x.topology) s.now) (ap (λ (x : WorldValue). x.fleet) s.now) a

pub returns-in-Stuck : goal.returns-in-Stuck
returns-in-Stuck c = λ w a h.
    new-counts w c.args.world.now c.args.self.now c.recount_all.new.self (step-topology w (event.Packet c.args.flow.now) c.args.world.now h) c.recount_all.ensures.length c.recount_all.ensures.each a
