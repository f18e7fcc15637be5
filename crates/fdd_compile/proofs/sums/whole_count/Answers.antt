use Rattle.std.proofs.Common.{sym, ◌∙◌}
use Rattle.fdd_compile.proofs.SweepLaws.{have_more, have_none}
use Rattle.fdd_compile.proofs.sums.whole_count.Goals as goal

pub loop-i-preserved : goal.loop-i-preserved
loop-i-preserved c =
    have_more c.args.from c.loop-i.i _ c.args.summands.now c.index-summands-i.result c.loop-i-test.true c.index-summands-i.is c.loop-i.invariant
    (sym c.test.ensures ∙ have_none c.test.result c.if-is_some.ensures)
