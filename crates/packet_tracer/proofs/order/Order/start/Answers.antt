use Rattle.std.proofs.Common.{rules, of_calls, ◌≡◌, ◌<◌, ◌≢◌, ltb, length, get_or, arith}
use Rattle.std.proofs.lemmas.Bool.Decides.{nat_tests}
use Rattle.std.proofs.lemmas.Fn.{always_returns_same}
use Rattle.std.proofs.lemmas.List.Sorted.{IsPartitionedBy-ltb}
use Rattle.packet_tracer.specs.Orders.{number_in}
use Rattle.packet_tracer.proofs.OrderLaws.{at_point, at_gap}
use Rattle.packet_tracer.proofs.order.Order.start.Goals as goal

pub returns-in-Some : goal.returns-in-Some
returns-in-Some c = λ rows order.
    let o = c.args.self.now in
    let ns = o.numbers.items in
    let k = c.partition_point-start.result in
    let n = c.number_in-number.result in
    let own : n ≡ number_in o.destination c.args.header.now = c.number_in-number.ensures in
    let same = c.deref.ensures.value in
    let key = always_returns_same _ _ _ (λ a r f' called. search (rules, of_calls)) in
    let point = c.partition_point-start.ensures.partitioned (λ y. ltb y n) key (IsPartitionedBy-ltb (λ y. y) c.deref.result.now n (rw same order.ascend)) in
    let within : k < length ns = grind (arith, nat_tests, c.in-Some.ensures.lookup, c.deref-2.ensures.value) in
    let other : get_or ns k 0 ≢ number_in o.destination c.args.header.now = λ e. c.if-other-number.true (grind (arith, c.in-Some.ensures.lookup, c.deref-2.ensures.value, own, e)) in
    rw (c.len.ensures, c.args.self.now.numbers.ok.0)
    (at_gap o.destination c.args.header.now rows ns k order within (rw (← own, ← same) point) other)

pub returns-in_default : goal.returns-in_default
returns-in_default c = λ rows order.
    let o = c.args.self.now in
    let ns = o.numbers.items in
    let n = c.number_in-number.result in
    let own : n ≡ number_in o.destination c.args.header.now = c.number_in-number.ensures in
    let same = c.deref.ensures.value in
    let key = always_returns_same _ _ _ (λ a r f' called. search (rules, of_calls)) in
    let point = c.partition_point-start.ensures.partitioned (λ y. ltb y n) key (IsPartitionedBy-ltb (λ y. y) c.deref.result.now n (rw same order.ascend)) in
    at_point o.destination c.args.header.now rows ns c.partition_point-start.result order.are_fixed (rw (← same) c.partition_point-start.ensures.bound) (rw (← own, ← same) point)

pub returns-in_default-2 : goal.returns-in_default-2
returns-in_default-2 c = λ rows order.
    let o = c.args.self.now in
    let ns = o.numbers.items in
    let n = c.number_in-number.result in
    let own : n ≡ number_in o.destination c.args.header.now = c.number_in-number.ensures in
    let same = c.deref.ensures.value in
    let key = always_returns_same _ _ _ (λ a r f' called. search (rules, of_calls)) in
    let point = c.partition_point-start.ensures.partitioned (λ y. ltb y n) key (IsPartitionedBy-ltb (λ y. y) c.deref.result.now n (rw same order.ascend)) in
    at_point o.destination c.args.header.now rows ns c.partition_point-start.result order.are_fixed (rw (← same) c.partition_point-start.ensures.bound) (rw (← own, ← same) point)
