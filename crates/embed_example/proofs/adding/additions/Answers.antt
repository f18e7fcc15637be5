use Rattle.std.proofs.Common.{length}
use Rattle.std.proofs.lemmas.Iterator.{YieldsList-from_slice}
use Rattle.std.proofs.lemmas.Iterator.Consumers.{YieldsList-turn}
use Rattle.embed_example.proofs.Members.{placed}
use Rattle.embed_example.proofs.adding.additions.Goals as goal

pub port_additions-requires : goal.port_additions-requires
port_additions-requires c =
    let ports = YieldsList-from_slice c.args.rows.now.ports c.into_iter-port-iterator.ensures.into_iter_gives.0 in
    let turn = YieldsList-turn ports c.loop-port.yielded _ c.loop-port.yielded_by _ _ c.in-Some.port c.in-Some.is c.next.ensures.steps in
    c.requires.each c.in-Some.port.now (placed c.args.rows.now.ports (length c.loop-port.yielded) c.in-Some.port.now turn.0 turn.1)
