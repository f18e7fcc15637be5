use Rattle.fdd_compile.proofs.SummandLaws.{item_in}
use Rattle.fdd_compile.proofs.SumLaws.{leaves_more}
use Rattle.fdd_compile.proofs.plain.are_leaves.Goals as goal

pub look-requires : goal.look-requires
look-requires c = c.requires _ (item_in c.args.parts.now _ _ c.loop-part-test.true c.part-item.is)

pub loop-part-preserved : goal.loop-part-preserved
loop-part-preserved c =
    leaves_more c.args.store.now c.args.parts.now _ _ c.loop-part-test.true c.part-item.is c.loop-part.invariant
    (c.requires _ (item_in c.args.parts.now _ _ c.loop-part-test.true c.part-item.is)) c.in-Leaf.ensures.look
