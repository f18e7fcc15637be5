use Rattle.std.proofs.Common.{ap, length, arith}
use Rattle.world_core.specs.Settling.{hops_from}
use Rattle.workload_gen.proofs.Found.{along-hops, at-hop, over-hops, past-hop}
use Rattle.workload_gen.proofs.finding.hop_by.Goals as goal

pub loop-place-init : goal.loop-place-init
loop-place-init c = record { small = omega arith; along = along-hops c.args.world.now (length c.args.world.now.flights) c.args.number }

pub returns-then-number-hops : goal.returns-then-number-hops
returns-then-number-hops c =
    let n = length c.args.world.now.flights in
    at-hop c.args.world.now c.loop-place.place n c.from-hops.result c.loop-place.number c.may_hop.result (hops_from 0 n) c.args.number
    c.loop-place.invariant.along (let more = c.loop-place-test.true in let all = c.len-place-end.ensures in let same = ap length c.flights.ensures in omega (arith, more, all, same)) c.from-hops.ensures c.may_hop.ensures c.if-number-hops.true

pub loop-place-preserved : goal.loop-place-preserved
loop-place-preserved c =
    let n = length c.args.world.now.flights in
    let small = c.loop-place.invariant.small in
    record {
      small = omega (arith, small);
      along = past-hop c.args.world.now c.loop-place.place n c.from-hops.result c.loop-place.number c.may_hop.result (hops_from 0 n) c.args.number
          c.loop-place.invariant.along (let more = c.loop-place-test.true in let all = c.len-place-end.ensures in let same = ap length c.flights.ensures in omega (arith, more, all, same)) c.from-hops.ensures c.may_hop.ensures
          (omega (arith, small, c.requires)) (omega (arith, c.if-number-hops.false));
    }

pub returns : goal.returns
returns c =
    let n = length c.args.world.now.flights in
    over-hops c.args.world.now c.loop-place.place n c.loop-place.number (hops_from 0 n) c.args.number c.loop-place.invariant.along (let over = c.loop-place-test.false in let all = c.len-place-end.ensures in let same = ap length c.flights.ensures in omega (arith, over, all, same))
