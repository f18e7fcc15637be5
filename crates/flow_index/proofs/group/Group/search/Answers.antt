use Rattle.std.proofs.Common.{◌≡◌, ◌+◌, ◌-◌, ◌/◌, ◌<◌, ◌≤◌, length, Some, slice_get, arith}
use Rattle.flow_index.proofs.Lists.{read-of}
use Rattle.flow_index.proofs.Ranked.{between-up, between-down}
use Rattle.flow_index.proofs.group.Group.search.Goals as goal

pub loop-low-preserved-then-index-rank : goal.loop-low-preserved-then-index-rank
loop-low-preserved-then-index-rank c =
    let middle = c.loop-low.low + (c.loop-low.high - c.loop-low.low) / 2 in
    let below : middle < c.loop-low.high = omega (arith, c.loop-low-test.true) in
    let within : middle < length c.args.self.now = omega (arith, below, c.loop-low.invariant.within) in
    let at : slice_get c.args.self.now middle ≡ Some c.index.result.now = read-of c.self.inside.entries.items c.args.self.now middle c.index.result.now c.self.view_is within c.index.ensures in
    between-up c.loop-low.low c.loop-low.high c.args.rank middle c.args.self.now c.index.result.now c.requires c.loop-low.invariant below at c.if-index-rank.true

pub loop-low-preserved : goal.loop-low-preserved
loop-low-preserved c =
    let middle = c.loop-low.low + (c.loop-low.high - c.loop-low.low) / 2 in
    let below : middle < c.loop-low.high = omega (arith, c.loop-low-test.true) in
    let within : middle < length c.args.self.now = omega (arith, below, c.loop-low.invariant.within) in
    let from : c.loop-low.low ≤ middle = omega arith in
    let at : slice_get c.args.self.now middle ≡ Some c.index.result.now = read-of c.self.inside.entries.items c.args.self.now middle c.index.result.now c.self.view_is within c.index.ensures in
    between-down c.loop-low.low c.loop-low.high c.args.rank middle c.args.self.now c.index.result.now c.requires c.loop-low.invariant from below at c.if-index-rank.false
