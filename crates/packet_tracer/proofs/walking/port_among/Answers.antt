use Rattle.std.proofs.Common.{◌≡◌, arith}
use Rattle.policy_rows.specs.Means.{standing, port_place}
use Rattle.packet_tracer.proofs.Readings.{port_read}
use Rattle.packet_tracer.proofs.walking.port_among.Goals as goal

pub returns-then-from-packet-2 : goal.returns-then-from-packet-2
returns-then-from-packet-2 c =
    let port = c.index-ports-place.result in
    let here : port_place port ≡ standing c.args.packet.now = grind (arith, c.if-from-packet.true, c.if-from-packet-2.true, c.from.ensures, c.from-then-from-packet.ensures) in
    port_read c.args.ports.now c.loop-place.place port c.args.packet.now c.loop-place-test.true c.index-ports-place.is here c.loop-place.invariant
