use Rattle.std.proofs.Common.{arith}
use Rattle.fdd_compile.proofs.FrontLaws.{front_more}
use Rattle.fdd_compile.proofs.fronts.put_front.Goals as goal

pub loop-pol-preserved : goal.loop-pol-preserved
loop-pol-preserved c = (
  omega (arith, c.loop-pol.invariant.0),
  front_more c.args.pols.now c.loop-pol.pol-index c.pol-item.result _ c.loop-pol.tests.items c.push.new.self.items c.loop-pol-test.true c.pol-item.is c.in-Some.ensures c.in_ok-push.ensures.ok c.loop-pol.invariant.1,
)
