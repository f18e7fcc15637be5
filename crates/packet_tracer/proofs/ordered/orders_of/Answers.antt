use Rattle.std.proofs.Common.{take, subst}
use Rattle.std.proofs.lemmas.List.{take_more}
use Rattle.packet_tracer.specs.Orders.{IsOrder}
use Rattle.packet_tracer.proofs.OrderLaws.{orders_more}
use Rattle.packet_tracer.proofs.ordered.orders_of.Goals as goal

pub loop-port-preserved : goal.loop-port-preserved
loop-port-preserved c =
    let ports = c.args.ports.now in
    let i = c.loop-port.port-index in
    let port = c.port-item.result in
    let order : IsOrder port.rows c.in_ok-new.field-0 = subst (λ rows. IsOrder rows c.in_ok-new.field-0) c.as_slice.ensures c.in_ok-new.ensures in
    rw (take_more ports i port c.loop-port-test.true, ← c.port-item.is, c.in_ok-push.ensures.items)
    (orders_more (take i ports) c.loop-port.orders.items port c.in_ok-new.field-0 c.loop-port.invariant order)
