use Rattle.std.proofs.Common.{arith}
use Rattle.fdd_compile.proofs.FrontLaws.{tests_more_front}
use Rattle.fdd_compile.proofs.fronts.put_tests.Goals as goal

pub loop-pred-preserved : goal.loop-pred-preserved
loop-pred-preserved c = (
  omega (arith, c.loop-pred.invariant.0),
  tests_more_front c.args.preds.now c.loop-pred.pred-index c.pred-item.result _ c.loop-pred.tests.items c.push.new.self.items c.loop-pred-test.true c.pred-item.is c.in-Some.ensures c.in_ok-push.ensures.ok c.loop-pred.invariant.1,
)
