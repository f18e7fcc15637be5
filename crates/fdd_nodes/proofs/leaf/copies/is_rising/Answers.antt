use Rattle.std.proofs.Common.{◌-◌, ◌∙◌, sym, arith}
use Rattle.fdd_nodes.proofs.OrderLaws.{rising_first, rising_more, is_less, not_not}
use Rattle.fdd_nodes.proofs.leaf.copies.is_rising.Goals as goal

pub loop-n-init : goal.loop-n-init
loop-n-init c = rising_first _

pub loop-n-preserved : goal.loop-n-preserved
loop-n-preserved c =
    let within = c.loop-n-test.true in
    let near = c.loop-n.auto.n in
    let less = is_less c.cmp.result (not_not _ (sym c.ne.ensures ∙ c.if-ne.false)) in
    rising_more c.args.copies.now c.loop-n.n (c.loop-n.n - 1) _ _ (omega (arith, near)) within c.index-copies-n.is c.index-copies-n-in-loop-n.is (sym c.cmp.ensures ∙ less) c.loop-n.invariant
