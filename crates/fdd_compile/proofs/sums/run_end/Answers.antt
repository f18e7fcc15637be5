use Rattle.std.proofs.Common.{arith, sym, ◌∙◌}
use Rattle.fdd_compile.proofs.SweepLaws.{run_first, run_more}
use Rattle.fdd_compile.proofs.sums.run_end.Goals as goal

pub loop-end-init : goal.loop-end-init
loop-end-init c = (omega arith, omega (arith, c.requires.start), run_first c.args.from c.args.start c.args.test.now c.args.summands.now c.requires.test)

pub loop-end-preserved : goal.loop-end-preserved
loop-end-preserved c =
    let old = c.loop-end.invariant in (
      omega (arith, old.0),
      omega (arith, c.loop-end-test.true),
      run_more c.args.from c.args.start c.loop-end.end c.args.test.now c.args.summands.now c.index-summands-end.result old.0 c.loop-end-test.true c.index-summands-end.is old.2 (sym c.test.ensures ∙ c.is_same.ensures c.if-is_same.true),
    )

pub returns-else-is_same-clause-more : goal.returns-else-is_same-clause-more
returns-else-is_same-clause-more c = c.loop-end.invariant.0

pub returns-else-is_same-clause-alike : goal.returns-else-is_same-clause-alike
returns-else-is_same-clause-alike c = c.loop-end.invariant.2

pub returns-after-loop-end-clause-most : goal.returns-after-loop-end-clause-most
returns-after-loop-end-clause-most c = c.loop-end.invariant.1

pub returns-after-loop-end-clause-alike : goal.returns-after-loop-end-clause-alike
returns-after-loop-end-clause-alike c = c.loop-end.invariant.2
