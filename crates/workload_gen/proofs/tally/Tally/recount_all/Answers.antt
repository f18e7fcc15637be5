use Rattle.std.proofs.Common.{◌≤◌, ◌<◌, ◌∙◌, ℕ, List, length, ap, arith}
use Rattle.workload_gen.specs.Counts.{IsCount}
use Rattle.workload_gen.specs.Draws.{tried_at}
use Rattle.workload_gen.proofs.Recounting.{each-next, each-all}
use Rattle.workload_gen.proofs.tally.Tally.recount_all.Goals as goal

pub loop-place-preserved : goal.loop-place-preserved
loop-place-preserved c = record {
  all = c.recount_at.ensures.length ∙ c.loop-place.invariant.all;
  each = each-next (λ (k n : ℕ). IsCount c.args.world.now (tried_at c.args.world.now k) n) c.loop-place.self c.recount_at.new.self c.loop-place.place c.recount_at.ensures.here c.recount_at.ensures.others c.loop-place.invariant.each;
}

pub returns-clause-each : goal.returns-clause-each
returns-clause-each c =
    let all = c.loop-place.invariant.all in
    let counts = ap (λ (xs : List ℕ). length xs) c.counts-place-end.ensures in
    let over : length c.loop-place.self ≤ c.loop-place.place = omega (arith, all, counts, c.loop-place-test.false) in
    each-all (λ (k n : ℕ). IsCount c.args.world.now (tried_at c.args.world.now k) n) c.loop-place.self c.loop-place.place over c.loop-place.invariant.each
