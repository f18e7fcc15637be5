use Rattle.std.proofs.Common.{length}
use Rattle.std.proofs.lemmas.Iterator.{YieldsList-from_slice}
use Rattle.std.proofs.lemmas.Iterator.Consumers.{YieldsList-turn}
use Rattle.embed_example.proofs.Members.{placed}
use Rattle.embed_example.proofs.adding.port_additions.Goals as goal

pub addition-requires : goal.addition-requires
addition-requires c =
    let rows = YieldsList-from_slice c.args.port.now.rows c.into_iter-row-iterator.ensures.into_iter_gives.0 in
    let turn = YieldsList-turn rows c.loop-row.yielded _ c.loop-row.yielded_by _ _ c.in-Some.row c.in-Some.is c.next.ensures.steps in
    c.requires c.in-Some.row.now (placed c.args.port.now.rows (length c.loop-row.yielded) c.in-Some.row.now turn.0 turn.1)
