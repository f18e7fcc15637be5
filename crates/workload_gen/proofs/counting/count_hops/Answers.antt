use Rattle.std.proofs.Common.{arith}
use Rattle.workload_gen.proofs.Counted.{bit-of-small, count-hop}
use Rattle.workload_gen.proofs.counting.count_hops.Goals as goal

pub loop-place-preserved : goal.loop-place-preserved
loop-place-preserved c =
    let few = c.loop-place.invariant.few in
    let bit = bit-of-small c.may_hop.result c.from-count.result c.from-count.ensures in
    record {
      few = omega (arith, few, bit);
      counted = count-hop c.args.world.now c.loop-place.place c.loop-place.count c.from-count.result c.may_hop.result c.loop-place.invariant.counted few (omega (arith, c.loop-place-test.true, c.len-place-end.type_inv)) c.from-count.ensures c.may_hop.ensures;
    }
