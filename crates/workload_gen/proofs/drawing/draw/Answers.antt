use Rattle.std.proofs.Common.{subst, sym}
use Rattle.world_core.specs.Worlds.{WorldValue}
use Rattle.workload_gen.specs.Draws.{Drawn}
use Rattle.workload_gen.proofs.Recounting.{quiet-others}
use Rattle.workload_gen.proofs.Turning.{any-err, drawn-can, drawn-runs, so-far-more}
use Rattle.workload_gen.proofs.drawing.draw.Goals as goal

pub returns-in_default-clause-runs : goal.returns-in_default-clause-runs
returns-in_default-clause-runs c = drawn-runs c.args.packets.now c.args.rng.now c.args.world.now c.loop.events.items c.loop.world c.loop.invariant.so_far.drawn

pub returns-in_err-next-clause-err : goal.returns-in_err-next-clause-err
returns-in_err-next-clause-err c = any-err c.from_residual-in_err-next.result (c.loop.events.items, c.loop.invariant.so_far.drawn)

pub do_next-requires-clause-can : goal.do_next-requires-clause-can
do_next-requires-clause-can c = drawn-can c.loop.left.now c.loop.world c.loop.rng c.in-Some.event (rw c.in-Some.is at c.in_ok-next.ensures.some).0

pub returns-in_err-do_next-clause-err : goal.returns-in_err-do_next-clause-err
returns-in_err-do_next-clause-err c =
    any-err c.from_residual-in_err-do_next.result
    (c.loop.events.items, subst (λ (v : WorldValue). Drawn c.args.packets.now c.args.rng.now c.args.world.now c.loop.events.items v) (sym c.in_err-do_next.ensures.err) c.loop.invariant.so_far.drawn)

pub after-others-requires : goal.after-others-requires
after-others-requires c =
    λ q. quiet-others c.loop.left.now c.left_by-left.result.now c.loop.world c.do_next.new.world c.in-Some.event c.loop.others.hops c.loop.others.last
    c.left_by-left.ensures (c.is_quiet-quiet.ensures q) c.in_ok-do_next.ensures.ok.1 c.loop.invariant.others

pub loop-preserved : goal.loop-preserved
loop-preserved c =
    let drawn = rw c.in-Some.is at c.in_ok-next.ensures.some in
    record {
      so_far = so-far-more c.args.packets.now c.args.rng.now c.args.world.now c.loop.events.items c.loop.left.now c.loop.rng c.loop.world c.in-Some.event c.do_next.new.events.items c.left_by-left.result.now c.next_event.new.rng c.do_next.new.world
          c.loop.invariant.so_far drawn.0 c.in_ok-do_next.ensures.ok.1 c.in_ok-do_next.ensures.ok.0 c.left_by-left.ensures drawn.1;
      counts = c.in_ok-do_next.ensures.counts;
      others = c.after-others.ensures;
    }
