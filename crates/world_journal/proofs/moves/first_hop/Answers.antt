use Rattle.std.proofs.Common.{rules, ◌≡◌, length, arith}
use Rattle.world_core.specs.declared.event.Event.TheVariants as event
use Rattle.world_core.specs.declared.event.PacketEvent.TheVariants as of_packet
use Rattle.world_core.specs.Steps.{IsEnabled}
use Rattle.world_journal.proofs.Searching.{none-more, none-there}
use Rattle.world_journal.proofs.moves.first_hop.Goals as goal

pub loop-place-init : goal.loop-place-init
loop-place-init c = λ k l may. absurd (omega (arith, l))

pub loop-place-preserved : goal.loop-place-preserved
loop-place-preserved c = none-more (λ k. IsEnabled c.args.world.now (event.Packet (of_packet.Hop k))) c.loop-place.place c.loop-place.invariant
    (λ may. search (rules, c.enabled.ensures, c.if-enabled.false, may))

pub returns-clause-none : goal.returns-clause-none
returns-clause-none c = none-there (λ k. IsEnabled c.args.world.now (event.Packet (of_packet.Hop k))) c.args.world.now.flights c.loop-place.place
    (let a : c.len-place-end.result ≡ length c.args.world.now.flights = search (rules, c.len-place-end.ensures, c.flights.ensures) in omega (arith, a, c.loop-place-test.false))
    (λ k may. (may.flight, may.there)) c.loop-place.invariant
