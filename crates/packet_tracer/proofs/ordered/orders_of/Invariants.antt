use Rattle.std.proofs.Common.{take}
use Rattle.packet_tracer.specs.Orders.{AreOrders}
use Rattle.packet_tracer.proofs.ordered.orders_of.Given as goal

abbrev pub invariant-loop-port : goal.invariant-loop-port
invariant-loop-port l = AreOrders (take l.port-index l.ports) l.orders.items
