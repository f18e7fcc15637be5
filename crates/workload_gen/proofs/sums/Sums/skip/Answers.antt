use Rattle.std.proofs.Common.{◌<◌, length, rules}
use Rattle.workload_gen.proofs.Summing.{skip-block}
use Rattle.workload_gen.proofs.sums.Sums.skip.Goals as goal

pub loop-block-preserved : goal.loop-block-preserved
loop-block-preserved c =
    let numbers = c.self.inside.numbers.items in
    let blocks = c.self.inside.blocks.items in
    let within : c.loop-block.block < length blocks = search (rules, c.loop-block-test.true, c.len-block-end.ensures) in
    skip-block numbers blocks c.loop-block.block c.index-sum.result.now c.loop-block.left c.args.number c.self.invariant.0 within c.index-sum.ensures c.loop-block.invariant c.requires c.if-left-sum.false
