use Rattle.std.proofs.Common.{◌<◌, ◌-◌, get_or, length, arith}
use Rattle.workload_gen.specs.Draws.{tried_from}
use Rattle.workload_gen.proofs.Found.{at-switch, get-at, over-tried, past-switch}
use Rattle.workload_gen.proofs.finding.switch_event_from.Goals as goal

pub loop-place-init : goal.loop-place-init
loop-place-init c = record { small = omega arith; along = λ o f. f }

pub returns-then-number-count : goal.returns-then-number-count
returns-then-number-count c =
    let n = length c.args.counts.now in
    let count = get_or c.args.counts.now c.loop-place.place 0 in
    let within : c.loop-place.place < n = omega (arith, c.loop-place-test.true) in
    at-switch c.args.world.now c.loop-place.place n count c.loop-place.number (tried_from c.args.world.now c.args.start (n - c.args.start)) c.args.number c.event_at.result
    c.loop-place.invariant.along within (c.requires.counts.each c.loop-place.place count (get-at c.args.counts.now c.loop-place.place within)) c.if-number-count.true c.event_at.ensures

pub loop-place-preserved : goal.loop-place-preserved
loop-place-preserved c =
    let n = length c.args.counts.now in
    let count = get_or c.args.counts.now c.loop-place.place 0 in
    let small = c.loop-place.invariant.small in
    let within : c.loop-place.place < n = omega (arith, c.loop-place-test.true) in
    record {
      small = omega (arith, small);
      along = past-switch c.args.world.now c.loop-place.place n count c.loop-place.number (tried_from c.args.world.now c.args.start (n - c.args.start)) c.args.number
          c.loop-place.invariant.along within (c.requires.counts.each c.loop-place.place count (get-at c.args.counts.now c.loop-place.place within)) (omega (arith, small, c.requires.number)) (omega (arith, c.if-number-count.false));
    }

pub returns : goal.returns
returns c =
    let n = length c.args.counts.now in
    over-tried c.args.world.now c.loop-place.place n c.loop-place.number (tried_from c.args.world.now c.args.start (n - c.args.start)) c.args.number c.loop-place.invariant.along (omega (arith, c.loop-place-test.false))
